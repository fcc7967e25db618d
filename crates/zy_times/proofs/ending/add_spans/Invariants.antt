use Rattle.std.proofs.Common.{◌≡◌, ◌≤◌, ◌+◌, ℕ, take}
use Rattle.zy_times.specs.Recording.{Recording, answered_in, first_in}
use Rattle.zy_times.specs.Times.{trues}
use Rattle.zy_times.specs.Line.{SessionHolds}
use Rattle.zy_times.specs.Spans.{AreSpansBelow}
use Rattle.zy_times.proofs.ending.add_spans.Given as goal

abbrev pub invariant-loop-index : goal.invariant-loop-index
invariant-loop-index l = record {
  count : l.ended ≡ trues (take l.index l.answered);
  few : l.ended ≤ l.index;
  more : (r : Recording) (conn number : ℕ) → SessionHolds r.records conn number l.session → l.answered ≡ answered_in r conn number → AreSpansBelow r conn (first_in r conn number) l.fn.spans.items
      → AreSpansBelow r conn (first_in r conn number + l.index) l.spans.items;
}
