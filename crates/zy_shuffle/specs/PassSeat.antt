-- The seats of passes between two calls. No public clause cites this module.
use Rattle.std.specs.Prelude.{◌≡◌, ℕ, ◌+◌, ◌<◌, ◌≤◌, List, ◌∷◌, true, Option, Some, None, IfSome, ⊤}
use Rattle.atomic_table.specs.Seated.{TableId}
use Rattle.zy_table.specs.Member.{is_in, without, IsDistinct}
use Rattle.zy_shuffle.specs.declared.ring.view.Role.{Role}
use Rattle.zy_shuffle.specs.declared.ring.view.Role.TheVariants.{Spent, Start, Core, Home, Closed}
use Rattle.zy_shuffle.specs.Hand.{rest_of, emptied, marked}
use Rattle.zy_shuffle.specs.Word.{bell_words}
use Rattle.zy_shuffle.specs.Run.{MakesNone}
use Rattle.zy_shuffle.specs.HomeRole.{IsHome}
use Rattle.zy_shuffle.specs.Step.{Seated}
use Rattle.zy_table.specs.declared.name.Name.{Name}
use Rattle.zy_shuffle.specs.declared.claim.Claim.{Claim}
use Rattle.zy_shuffle.specs.Pass.{Ringed, held, tail_of, out_of, Claimed, Collected, LookedAt, IfTook}

-- the table of a ring with `places` places
abbrev pub IsRinged : TableId → ℕ → Type 0
IsRinged id places = (id.slots ≡ places) × (id.words ≡ 32 + places + bell_words places) × (places ≤ 4096)

-- each place of the hand is one of the ring
abbrev pub Within : ℕ → List ℕ → Type 0
Within places hand = (p : ℕ) → is_in p hand ≡ true → p < places

-- the doorbell word that a home noted
abbrev pub bells_of : Role → Option (ℕ × ℕ)
bells_of Spent = None
bells_of Start = None
bells_of Core = None
bells_of (Home tail stored noted out) = noted
bells_of (Closed gone) = None

-- the seat of a home that knows this tail
abbrev pub IsHomeSeat : {T : Type 0} → ℕ → ℕ → Seated T → Type 0
IsHomeSeat places tail m = (m.1 ≡ emptied m.0.hand)
    × (m.0.role ≡ Home tail None (bells_of m.0.role) (out_of m.0.role)) × Within places m.0.hand

-- the seat of a core
abbrev pub IsCoreSeat : {T : Type 0} → ℕ → Seated T → Type 0
IsCoreSeat places m = (m.1 ≡ emptied m.0.hand) × (m.0.role ≡ Core) × Within places m.0.hand

-- the slot of this place is in front
abbrev pub IsFront : Option ℕ → List ℕ → Type 0
IsFront None hand = ⊤
IsFront (Some p) hand = hand ≡ p ∷ rest_of hand

-- the pass of a core
pub record IsCorePass {T : Type 0} (places : ℕ) (front : Option ℕ) (m : Seated T) : Type 0 where
  pub seat : IsCoreSeat places m
  pub front_is : IsFront front m.0.hand
  pub apart : IsDistinct m.0.hand

-- the slot of the place was brought to the front
pub record IsBrought {T : Type 0} (place : ℕ) (m n : Seated T) : Type 0 where
  pub role : n.0.role ≡ m.0.role
  pub label : n.0.label ≡ m.0.label
  pub kept : n.0.kept ≡ m.0.kept
  pub hand : n.0.hand ≡ place ∷ without place m.0.hand
  pub slots : n.1 ≡ emptied (place ∷ without place m.0.hand)
  pub stays : MakesNone m.0.trace n.0.trace

-- ---- the answers of private functions, by the seat before and after

-- the seat of a home after a call, with the tail as it was known before
abbrev pub IsHomeAfter : {T : Type 0} → ℕ → Seated T → Seated T → Type 0
IsHomeAfter places m n = IsHomeSeat places (tail_of m.0.role) n

module _ {T M : Type 0} (mark : T → M) (label : T → Name) (ring : Ringed) (m n : Seated T) where
  -- the answer of a claim
  abbrev pub ClaimedBy : Claim T → Type 0
  ClaimedBy claim = Claimed mark label ring.places (held ring.id m.0) (held ring.id n.0) claim

  -- the answer of a collect
  abbrev pub CollectedBy : Option (ℕ × T) → Type 0
  CollectedBy found = Collected mark label ring.places (held ring.id m.0) (held ring.id n.0) found

  -- the answer of a look at one doorbell word
  abbrev pub LookedBy : ℕ → Option (ℕ × T) → Type 0
  LookedBy word found = LookedAt mark label ring.places (held ring.id m.0) (held ring.id n.0) word found

module _ {T M : Type 0} (mark : T → M) (m : Seated T) where
  -- a block that was collected has the mark that the home keeps
  abbrev pub KeepsMark : Option (ℕ × T) → Type 0
  KeepsMark found = IfSome found (λ x. marked mark x.0 m.0.kept ≡ Some (mark x.1))

  -- a block that the home claimed has the mark that the home keeps
  abbrev pub ClaimKeepsMark : Claim T → Type 0
  ClaimKeepsMark claim = IfTook claim (λ place block. IsHome m.0.role → marked mark place m.0.kept ≡ Some (mark block))
