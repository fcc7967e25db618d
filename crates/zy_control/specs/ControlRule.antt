-- The rule of the control words, which holds between any two steps.
use Rattle.std.specs.Prelude.{◌≡◌, ℕ, ◌+◌, ◌^◌, ◌<◌, ◌≤◌, ◌==◌, Bool, List, [], ◌∷◌, length, true, false, slice_index}
use Rattle.std.specs.Prelude.{⊤}
use Rattle.std.specs.Int.{bit_at}
use mathlib.Core.Option.{some}
use lib.ListN.{get_elem?}
use Rattle.atomic_table.specs.Table.{State}
use Rattle.zy_control.specs.declared.view.Role.{Role}
use Rattle.zy_control.specs.declared.view.Role.TheVariants.{Root, Core, Watcher}
use Rattle.zy_control.specs.declared.view.View.{View}
use Rattle.zy_control.specs.View.{Covers}

-- 1 for a core that has counted itself, 0 for every other seat: so only the seats of cores count
-- themselves, and each does so once
abbrev pub has_one : Role → ℕ
has_one (Root given) = 0
has_one (Core number true announced) = 1
has_one (Core number false announced) = 0
has_one Watcher = 0

-- 1 for the seat of a core, 0 for every other seat
abbrev pub is_one : Role → ℕ
is_one (Root given) = 0
is_one (Core number counted announced) = 1
is_one Watcher = 0

-- the number of seats that have counted themselves
abbrev pub counted_in : List View → ℕ
counted_in [] = 0
counted_in (v ∷ vs) = has_one v.role + counted_in vs

-- the number of seats of cores
abbrev pub cores_in : List View → ℕ
cores_in [] = 0
cores_in (v ∷ vs) = is_one v.role + cores_in vs

-- 1 for a true test, 0 for a false one
abbrev pub one_if : Bool → ℕ
one_if true = 1
one_if false = 0

-- 1 for the seat of the core with this number, 0 for every other seat
abbrev pub is_named : ℕ → Role → ℕ
is_named i (Root given) = 0
is_named i (Core number counted announced) = one_if (number == i)
is_named i Watcher = 0

-- 1 for the seat of the core with this number if it has announced itself, 0 for every other seat
abbrev pub is_asleep : ℕ → Role → ℕ
is_asleep i (Root given) = 0
is_asleep i (Core number counted true) = one_if (number == i)
is_asleep i (Core number counted false) = 0
is_asleep i Watcher = 0

-- the number of seats of the core with this number
abbrev pub named_in : ℕ → List View → ℕ
named_in i [] = 0
named_in i (v ∷ vs) = is_named i v.role + named_in i vs

-- the number of seats of the core with this number that have announced themselves
abbrev pub asleep_in : ℕ → List View → ℕ
asleep_in i [] = 0
asleep_in i (v ∷ vs) = is_asleep i v.role + asleep_in i vs

-- seat 0 is the root, and it knows the number of seats that it gave to cores
abbrev pub IsRole : List View → ℕ → Role → Type 0
IsRole vs j (Root given) = (j ≡ 0) × (given ≡ cores_in vs)
IsRole vs j (Core number counted announced) = ⊤
IsRole vs j Watcher = ⊤

-- what seat j knows is true
pub record Knows (words : List ℕ) (vs : List View) (cores j : ℕ) (v : View) : Type 0 where
  -- it knows the number of cores
  pub cores_are : v.cores ≡ cores
  -- done is at least the value that the seat saw: done never falls
  pub done_seen : v.trace.done.value ≤ slice_index words 0
  -- a bit of stop that the seat saw set is still set: none is ever cleared
  pub stop_seen : Covers v.trace.stop.value (slice_index words 1)
  -- what it knows by its role is true
  pub role : IsRole vs j v.role

-- the rule, for `cores` cores
pub record ControlRule (cores : ℕ) (s : State ℕ View) : Type 0 where
  -- the words are done, stop and sleepers
  pub wide : length s.words ≡ 3
  -- done is the number of the seats that have counted themselves
  pub done : slice_index s.words 0 ≡ counted_in s.views
  -- the number of seats given to cores is at most the number of cores
  pub few : cores_in s.views ≤ cores
  -- the number of cores fits in a word
  pub fits : cores < 2 ^ 64
  -- each core has at most one seat, and a core whose seat was not given has none
  pub alone : (i : ℕ) → named_in i s.views ≤ 1
  pub given : (i : ℕ) → cores_in s.views ≤ i → named_in i s.views ≡ 0
  -- a bit of sleepers is 1 if and only if the seat of the core with its number has announced itself
  pub sleepers : (i : ℕ) → bit_at (slice_index s.words 2) i ≡ asleep_in i s.views
  -- what each seat knows is true
  pub each : (j : ℕ) (v : View) → get_elem? s.views j ≡ some v → Knows s.words s.views cores j v
