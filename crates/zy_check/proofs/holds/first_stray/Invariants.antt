use Rattle.std.proofs.Common.{take}
use Rattle.zy_check.specs.Held.{FoundStray}
use Rattle.zy_check.proofs.holds.first_stray.Given as goal

abbrev pub invariant-loop-at : goal.invariant-loop-at
invariant-loop-at l = FoundStray l.count (take l.at l.holds) l.found
