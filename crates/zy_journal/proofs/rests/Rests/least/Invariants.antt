use Rattle.std.proofs.Common.{◌*◌, ◌-◌, ◌≤◌}
use Rattle.zy_journal.specs.Walk.{IsBest}
use Rattle.zy_journal.proofs.rests.Rests.least.Given as goal

-- the best of the groups so far
abbrev pub invariant-loop-group : goal.invariant-loop-group
invariant-loop-group l = record {
  best : IsBest l.self 0 (16 * l.group) l.best;
  within : l.group ≤ 16;
  few : l.count ≤ 256;
}

abbrev pub decreases-loop-group : goal.decreases-loop-group
decreases-loop-group l = 256 - 16 * l.group
