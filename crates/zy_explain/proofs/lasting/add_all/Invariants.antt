use Rattle.std.proofs.Common.{◌≡◌, ℕ, ◌||◌, List}
use Rattle.std.specs.BTreeSet.{contains}
use Rattle.std.specs.Cmp.Lexicographic.{slice_cmp}
use Rattle.std.specs.Ordering.{nat_cmp}
use Rattle.zy_explain.specs.Lasting.{is_among}
use Rattle.zy_explain.proofs.lasting.add_all.Given as goal

-- the keys that were added and those that are left are all keys
abbrev pub invariant-loop-key : goal.invariant-loop-key
invariant-loop-key l =
    (other : List ℕ)
    → (contains (slice_cmp nat_cmp) l.all other || is_among l.key-iterator other)
    ≡ (contains (slice_cmp nat_cmp) l.fn.all other || is_among l.keys.keys other)
