use Rattle.std.proofs.Common.{drop}
use Rattle.std.specs.List.{AllByRecursion}
use Rattle.mc_shown.specs.Listing.{IsNotOf}
use Rattle.mc_shown.proofs.keyed.item_of.Given as goal

-- the items so far are of other keys
abbrev pub invariant-loop-i : goal.invariant-loop-i
invariant-loop-i l = AllByRecursion (IsNotOf l.key) (drop l.i l.items) → AllByRecursion (IsNotOf l.key) l.items
