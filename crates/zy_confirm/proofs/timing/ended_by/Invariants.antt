use Rattle.std.proofs.Common.{◌≡◌, ◌+◌, ◌≤◌, drop}
use Rattle.zy_verdict.specs.Numbers.{ended_among}
use Rattle.zy_confirm.proofs.timing.ended_by.Given as goal

abbrev pub invariant-loop-index : goal.invariant-loop-index
invariant-loop-index l = record {
  count : l.ended + ended_among l.left (drop l.index l.answered) ≡ ended_among l.marks l.answered;
  few : l.ended ≤ l.index;
}
