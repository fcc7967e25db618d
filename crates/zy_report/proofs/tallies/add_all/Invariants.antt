use Rattle.std.proofs.Common.{length}
use Rattle.zy_report.proofs.AllLemmas.{HasRead}
use Rattle.zy_report.proofs.tallies.add_all.Given as goal

-- those that were taken were counted
abbrev pub invariant-loop-entry : goal.invariant-loop-entry
invariant-loop-entry l = HasRead l.tallies.items l.fn.entries l.left

abbrev pub decreases-loop-entry : goal.decreases-loop-entry
decreases-loop-entry l = length l.left
