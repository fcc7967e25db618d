-- What frames add to the notes. No public clause cites this module.
use Rattle.std.specs.Prelude.{◌≡◌, ◌⊎◌, ◌↔◌, ℕ, true, List, [], ◌∷◌, ◌++◌, Option, Some}
use Rattle.std.specs.BTreeSet.{BTreeSet, contains}
use Rattle.std.specs.Cmp.Lexicographic.{slice_cmp}
use Rattle.std.specs.Ordering.{nat_cmp}
use Rattle.zy_frame.specs.declared.frame_kind.FrameKind.{FrameKind}
use Rattle.zy_verdict.specs.Losses.{key_with_exptime}
use Rattle.zy_sessions.specs.declared.session.Session.{Session}

-- the set has the key
abbrev pub Has : BTreeSet (List ℕ) → List ℕ → Type 0
Has keys key = contains (slice_cmp nat_cmp) keys key ≡ true

-- the new set has the keys of the old one, and this one, if there is one
abbrev pub AddsKey : BTreeSet (List ℕ) → BTreeSet (List ℕ) → Option (List ℕ) → Type 0
AddsKey old new found = (key : List ℕ) → (Has new key ↔ Has old key ⊎ (found ≡ Some key))

-- some of these frames gives the key an exptime other than 0
abbrev pub GiveExptime : List FrameKind → List ℕ → Type 0
GiveExptime [] key = ⊥
GiveExptime (frame ∷ frames) key = (key_with_exptime frame ≡ Some key) ⊎ GiveExptime frames key

-- the new set has the keys of the old one, and those to which these frames give an exptime other than 0
abbrev pub AddsKeys : BTreeSet (List ℕ) → BTreeSet (List ℕ) → List FrameKind → Type 0
AddsKeys old new frames = (key : List ℕ) → (Has new key ↔ Has old key ⊎ GiveExptime frames key)

-- an empty session was appended
pub record AppendsEmpty (old new : List Session) : Type 0 where
  pub session : Session
  pub appended : new ≡ old ++ session ∷ []
  pub commands : session.commands.items ≡ []
  pub sent : session.sent.items ≡ []
  pub marks : session.marks.items ≡ []
