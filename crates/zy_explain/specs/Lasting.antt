-- The keys whose items may be lost. No public clause cites this module.
use Rattle.std.specs.Prelude.{◌≡◌, ℕ, Bool, ◌||◌, List}
use Rattle.std.specs.BTreeMap.{is_at}
use Rattle.std.specs.BTreeSet.{BTreeSet, contains}
use Rattle.std.specs.Cmp.Lexicographic.{slice_cmp}
use Rattle.std.specs.List.{list_any}
use Rattle.std.specs.Ordering.{nat_cmp}

-- a key is among these
abbrev pub is_among : List (List ℕ) → List ℕ → Bool
is_among keys key = list_any (is_at (slice_cmp nat_cmp key)) keys

-- the set has the keys that it had, and these
abbrev pub AddsAll : List (List ℕ) → BTreeSet (List ℕ) → BTreeSet (List ℕ) → Type 0
AddsAll keys old new =
    (key : List ℕ)
    → contains (slice_cmp nat_cmp) new key ≡ (contains (slice_cmp nat_cmp) old key || is_among keys key)

-- the set has the keys of two sets
abbrev pub IsUnion : BTreeSet (List ℕ) → BTreeSet (List ℕ) → BTreeSet (List ℕ) → Type 0
IsUnion one other all =
    (key : List ℕ)
    → contains (slice_cmp nat_cmp) all key
    ≡ (contains (slice_cmp nat_cmp) one key || contains (slice_cmp nat_cmp) other key)
