use Rattle.std.proofs.Common.{◌≡◌, ◌≤◌, take, map}
use Rattle.zy_times.specs.Spans.{has_end}
use Rattle.zy_times.specs.Times.{trues}
use Rattle.zy_times.proofs.spans.ended_in.Given as goal

abbrev pub invariant-loop-at : goal.invariant-loop-at
invariant-loop-at l = record {
  value : l.ended ≡ trues (map has_end (take l.at l.spans.items));
  few : l.ended ≤ l.at;
}
