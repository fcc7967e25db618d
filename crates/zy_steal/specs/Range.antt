-- Claims by several passes, one after the other. No public clause cites this module.
use Rattle.std.specs.Prelude.{◌≡◌, ◌≢◌, ◌⊎◌, ℕ, ◌+◌, ◌-◌, ◌%◌, ◌<◌, ◌≤◌, List, Option, Some, None, slice_get, slice_set, nat_lt, if◌then◌else◌}
use Rattle.zy_table.specs.declared.name.Name.{Name}
use Rattle.zy_shuffle.specs.declared.claim.Claim.{Claim}
use Rattle.zy_shuffle.specs.declared.claim.Claim.TheVariants as claims
use Rattle.zy_shuffle.specs.Pass.{Held, Claimed}
use Rattle.zy_steal.specs.declared.looks.Look.{Look}
use Rattle.zy_steal.specs.declared.passes.Taken.{Taken}
use Rattle.zy_steal.specs.Look.{look_at, Notes}
use Rattle.zy_steal.specs.Order.{other_core}
use Rattle.zy_steal.specs.Steal.{Thief, seats_of, Found, Looked}

-- one pass made a claim
pub record ClaimsAt {T M : Type 0} (mark : T → M) (label : T → Name) (vs ws : List (Held T)) (at : ℕ)
    (claim : Claim T) : Type 0 where
  pub before : Held T
  pub after : Held T
  pub places : ℕ
  pub was : slice_get vs at ≡ Some before
  pub is : ws ≡ slice_set vs at after
  pub claimed : Claimed mark label places before after claim

-- one pass made a claim that took nothing, and its look was noted
pub record MissesAt {T : Type 0} (core : ℕ) (vs ws : List (Held T)) (looks looks' : List (Option Look))
    (at : ℕ) : Type 0 where
  pub before : Held T
  pub after : Held T
  pub look : Look
  pub was : slice_get vs at ≡ Some before
  pub is : ws ≡ slice_set vs at after
  pub found : Found before after look
  pub notes : Notes (other_core core at) look looks looks'

-- the passes from one number to another made claims that took nothing, and the other passes made no
-- step
pub record Ranges {T : Type 0} (core : ℕ) (vs ws : List (Held T)) (looks looks' : List (Option Look))
    (from to : ℕ) : Type 0 where
  pub seats : seats_of ws ≡ seats_of vs
  pub looked : (at : ℕ) → from ≤ at → at < to → Looked core vs ws looks' at
  pub rest : (at : ℕ) → (at < from) ⊎ (to ≤ at) → slice_get ws at ≡ slice_get vs at
  pub others : (other : ℕ) → ((at : ℕ) → from ≤ at → at < to → other_core core at ≢ other)
      → look_at looks' other ≡ look_at looks other

-- one of them took a block, and the claims before it took nothing
pub record StopsAt {T M : Type 0} (mark : T → M) (label : T → Name) (core : ℕ) (vs ws : List (Held T))
    (looks looks' : List (Option Look)) (from to : ℕ) (taken : Taken T) : Type 0 where
  pub middle : List (Held T)
  pub from_on : from ≤ taken.at
  pub below : taken.at < to
  pub ranges : Ranges core vs middle looks looks' from taken.at
  pub takes : ClaimsAt mark label middle ws taken.at (claims.Took taken.place taken.block)

module _ {T M : Type 0} (mark : T → M) (label : T → Name) (core : ℕ) (vs ws : List (Held T))
    (looks looks' : List (Option Look)) where
  -- the answer of one claim
  abbrev pub LooksOnce : ℕ → Option (Taken T) → Type 0
  LooksOnce at None = MissesAt core vs ws looks looks' at
  LooksOnce at (Some taken) =
      (taken.at ≡ at) × (looks' ≡ looks) × ClaimsAt mark label vs ws at (claims.Took taken.place taken.block)

  -- the answer of a range of claims
  abbrev pub RangesTo : ℕ → ℕ → Option (Taken T) → Type 0
  RangesTo from to None = Ranges core vs ws looks looks' from to
  RangesTo from to (Some taken) = StopsAt mark label core vs ws looks looks' from to taken

-- the t-th number of a turn round `count` numbers that begins with `start`
abbrev pub turned : ℕ → ℕ → ℕ → ℕ
turned start count t = if nat_lt (start + t) count then start + t else start + t - count

-- a block was taken at the t-th number of a turn, and the claims before it took nothing
pub record StopsInTurn {T M : Type 0} (mark : T → M) (label : T → Name) (core : ℕ) (vs ws : List (Held T))
    (start count : ℕ) (taken : Taken T) : Type 0 where
  pub turn : ℕ
  pub few : turn < count
  pub is : taken.at ≡ turned start count turn
  pub earlier : (t : ℕ) (v w : Held T) → t < turn → slice_get vs (turned start count t) ≡ Some v
      → slice_get ws (turned start count t) ≡ Some w → (look : Look) × Found v w look
  pub later : (t : ℕ) → turn < t → t < count → slice_get ws (turned start count t) ≡ slice_get vs (turned start count t)
  pub middle : List (Held T)
  pub seats : seats_of middle ≡ seats_of vs
  pub same : slice_get middle taken.at ≡ slice_get vs taken.at
  pub takes : ClaimsAt mark label middle ws taken.at (claims.Took taken.place taken.block)

-- the answer of a whole turn
abbrev pub TurnsTo : {T M : Type 0} → (T → M) → (T → Name) → ℕ → List (Held T) → List (Held T) → List (Option Look)
    → List (Option Look) → ℕ → ℕ → Option (Taken T) → Type 0
TurnsTo mark label core vs ws looks looks' start count None = Ranges core vs ws looks looks' 0 count
TurnsTo mark label core vs ws looks looks' start count (Some taken) =
    StopsInTurn mark label core vs ws start count taken

-- the number with which a thief begins
abbrev pub IsFirst : Thief → ℕ → Type 0
IsFirst h start = (start ≤ h.cores - 1) × (0 < h.cores - 1 → start ≡ (h.core + h.calls) % (h.cores - 1))
