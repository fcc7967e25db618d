use Rattle.std.proofs.Common.{take}
use Rattle.zy_check.specs.Held.{AreSums}
use Rattle.zy_check.proofs.holds.sums.Given as goal

abbrev pub invariant-loop-at : goal.invariant-loop-at
invariant-loop-at l = AreSums l.count (take l.at l.holds) l.sums.items
