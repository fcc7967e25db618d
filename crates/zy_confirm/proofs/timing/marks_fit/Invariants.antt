use Rattle.std.proofs.Common.{◌≡◌, ◌≤◌, take}
use Rattle.zy_times.specs.Times.{trues}
use Rattle.zy_confirm.proofs.TimingLemmas.{AreMatched}
use Rattle.zy_confirm.proofs.timing.marks_fit.Given as goal

abbrev pub invariant-loop-index : goal.invariant-loop-index
invariant-loop-index l = record {
  count : l.ended ≡ trues (take l.index l.answered);
  few : l.ended ≤ l.index;
  matched : AreMatched l.sent l.marks l.answered l.index;
}
