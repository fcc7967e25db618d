-- Holds, one further hold at a time.
use Rattle.std.specs.List.{slice_get, slice_set}
use Rattle.std.proofs.Common.{◌≡◌, ◌≢◌, inl, inr, ◌⊎◌, ℕ, ◌+◌, ◌<◌, ◌≤◌, List, [], ◌∷◌, ◌++◌, length, get_or, Option, None, Some, refl, sym, ap, ◌∙◌, arith}
use Rattle.std.proofs.lemmas.List.{length-set, get_or-set_same, get_or-set_other}
use Rattle.std.proofs.lemmas.Option.{slice_get_read}
use Rattle.std.proofs.lemmas.Bool.Decides.{eqb_tells}
use mathlib.Core.Logic.{dite}
use native.Mathlib.Decide.{ℕ_discrete}
use Rattle.mc_calls.specs.declared.hold.Hold.{Hold}
use Rattle.zy_run.specs.Spans.{held_of}
use Rattle.zy_check.specs.declared.track.Track.{Track}
use Rattle.zy_check.specs.Given.{Given, IsHeld}
use Rattle.zy_check.specs.Held.{AreSums, FoundStray}
use Rattle.zy_check.specs.Missing.{AreEnded}
use Rattle.zy_check.proofs.ListLemmas.{read_at}
use Rattle.zy_check.proofs.StepLemmas.{ended_count}

-- ---- the sum of a connection

pub held_here : (conn : ℕ) (hs : List Hold) (h : Hold) → h.conn ≡ conn → held_of conn (hs ++ h ∷ []) ≡ held_of conn hs + h.count
held_here conn [] h here =
    elim (eqb_tells h.conn conn) [
      | inl same ↦ rw same.0 (omega arith)
      | inr other ↦ absurd (other.1 here)
    ]
held_here conn (x ∷ xs) h here =
    let rest = held_here conn xs h here in
    elim (eqb_tells x.conn conn) [
      | inl same ↦ rw same.0 (omega arith)
      | inr other ↦ rw other.0 rest
    ]

pub held_other : (conn : ℕ) (hs : List Hold) (h : Hold) → h.conn ≢ conn → held_of conn (hs ++ h ∷ []) ≡ held_of conn hs
held_other conn [] h apart =
    elim (eqb_tells h.conn conn) [
      | inl same ↦ absurd (apart same.1)
      | inr other ↦ rw other.0 refl
    ]
held_other conn (x ∷ xs) h apart =
    let rest = held_other conn xs h apart in
    elim (eqb_tells x.conn conn) [
      | inl same ↦ rw same.0 (omega arith)
      | inr other ↦ rw other.0 rest
    ]

-- it does not fall
held_rises : (conn : ℕ) (hs : List Hold) (h : Hold) → held_of conn hs ≤ held_of conn (hs ++ h ∷ [])
held_rises conn hs h = dite (ℕ_discrete h.conn conn)
    (λ here. let more = held_here conn hs h here in omega arith)
    (λ other. let same = held_other conn hs h other in omega arith)

-- ---- the sums of all connections

pub sums_more : (count : ℕ) (before : List Hold) (h : Hold) (sums : List ℕ) (sum : ℕ) → h.conn < length sums → sum ≡ get_or sums h.conn 0 + h.count → AreSums count before sums
    → AreSums count (before ++ h ∷ []) (slice_set sums h.conn sum)
sums_more count before h sums sum within is are =
    let size = are.count_is in record {
      count_is = length-set sums h.conn sum ∙ size;
      each = λ conn below. dite (ℕ_discrete h.conn conn)
          (λ here.
          let mine = are.each conn below in
          let more = held_here conn before h here in
          let now : get_or (slice_set sums h.conn sum) conn 0 ≡ sum = (λ i. get_or (slice_set sums h.conn sum) (sym here i) 0) ∙ get_or-set_same sums h.conn sum 0 within in
          let old : get_or sums h.conn 0 ≡ get_or sums conn 0 = λ i. get_or sums (here i) 0 in
          omega arith)
          (λ other. get_or-set_other sums h.conn conn sum 0 (λ same. other (sym same)) ∙ are.each conn below ∙ sym (held_other conn before h other));
    }

pub sums_same : (count : ℕ) (before : List Hold) (h : Hold) (sums : List ℕ) → length sums ≤ h.conn → AreSums count before sums → AreSums count (before ++ h ∷ []) sums
sums_same count before h sums past are =
    let size = are.count_is in record {
      count_is = size;
      each = λ conn below. are.each conn below ∙ sym (held_other conn before h (λ same. omega arith));
    }

-- a connection at its end is held if and only if its sum is the number of its commands
held_exactly : (g : Given) (tracks : List Track) (count conn sum : ℕ) (hs : List Hold) (sums : List ℕ) (t : Track) → AreEnded g tracks → AreSums count hs sums → hs ≡ g.holds → conn < count
    → slice_get tracks conn ≡ Some t → get_or sums conn 0 ≡ sum → (sum ≡ t.commands → IsHeld g conn) × (IsHeld g conn → sum ≡ t.commands)
held_exactly g tracks count conn sum hs sums t ended are holds below is sum_is =
    let commands = ended_count g tracks conn t ended is in
    let held : held_of conn g.holds ≡ sum = ap (held_of conn) (sym holds) ∙ sym (are.each conn below) ∙ sum_is in (
      (λ same. held ∙ same ∙ commands),
      (λ same. sym held ∙ same ∙ sym commands),
    )

-- the same of what is read at a place
pub held_at : (g : Given) (tracks : List Track) (count conn sum : ℕ) (hs : List Hold) (sums : List ℕ) (t : Track) → AreEnded g tracks → AreSums count hs sums → hs ≡ g.holds → count ≡ length g.streams → conn < count → t ≡ get_or tracks conn t → sum ≡ get_or sums conn sum
    → (sum ≡ t.commands → IsHeld g conn) × (IsHeld g conn → sum ≡ t.commands)
held_at g tracks count conn sum hs sums t ended are holds all below track_is sum_is =
    let size = ended.count in
    let summed = are.count_is in
    held_exactly g tracks count conn sum hs sums t ended are holds below (slice_get_read tracks _ conn t refl (omega (arith, size, all, below)) track_is) (read_at sums conn sum 0 (omega (arith, summed, below)) sum_is)

-- ---- connections that are not there

-- a hold of a connection below the count, or of no command, changes nothing
nothing_more : (count : ℕ) (before : List Hold) (h : Hold) (conn : ℕ) → (h.conn < count) ⊎ (h.count ≡ 0) → count ≤ conn → held_of conn (before ++ h ∷ []) ≡ held_of conn before
nothing_more count before h conn (inl low) past = held_other conn before h (λ same. omega arith)
nothing_more count before h conn (inr zero) past = dite (ℕ_discrete h.conn conn)
    (λ here. let more = held_here conn before h here in omega arith)
    (λ other. held_other conn before h other)

pub stray_same : (count : ℕ) (before : List Hold) (h : Hold) (found : Option ℕ) → (h.conn < count) ⊎ (h.count ≡ 0) → FoundStray count before found → FoundStray count (before ++ h ∷ []) found
stray_same count before h None why none = λ conn past. nothing_more count before h conn why past ∙ none conn past
stray_same count before h (Some stray) why some = (
  some.0,
  (λ zero. some.1 (sym (nothing_more count before h stray why some.0) ∙ zero)),
  (λ conn past below. nothing_more count before h conn why past ∙ some.2 conn past below),
)

-- one of a higher connection, or of the same
pub stray_kept : (count : ℕ) (before : List Hold) (h : Hold) (stray : ℕ) → stray ≤ h.conn → FoundStray count before (Some stray) → FoundStray count (before ++ h ∷ []) (Some stray)
stray_kept count before h stray high some = (
  some.0,
  (λ zero. some.1 (let rises = held_rises stray before h in omega arith)),
  (λ conn past below. held_other conn before h (λ same. omega arith) ∙ some.2 conn past below),
)

-- the first one, or one of a lower connection
pub stray_first : (count : ℕ) (before : List Hold) (h : Hold) → count ≤ h.conn → h.count ≢ 0 → FoundStray count before None → FoundStray count (before ++ h ∷ []) (Some h.conn)
stray_first count before h past some none = (
  past,
  (λ zero. some (let more = held_here h.conn before h refl in omega arith)),
  (λ conn high below. held_other conn before h (λ same. omega arith) ∙ none conn high),
)

pub stray_lower : (count : ℕ) (before : List Hold) (h : Hold) (stray : ℕ) → count ≤ h.conn → h.count ≢ 0 → h.conn < stray → FoundStray count before (Some stray) → FoundStray count (before ++ h ∷ []) (Some h.conn)
stray_lower count before h stray past some lower found = (
  past,
  (λ zero. some (let more = held_here h.conn before h refl in omega arith)),
  (λ conn high below. held_other conn before h (λ same. omega arith) ∙ found.2 conn high (omega arith)),
)
