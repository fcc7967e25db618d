use Rattle.std.proofs.Common.{◌≡◌, ◌≤◌, ℕ, length, drop}
use Rattle.zy_times.specs.Recording.{Recording}
use Rattle.zy_times.specs.Recorded.{IsOfRun, CameBefore}
use Rattle.zy_times.specs.Spans.{AreSpans}
use Rattle.zy_times.proofs.late.first_late.Given as goal

abbrev pub invariant-loop-at : goal.invariant-loop-at
invariant-loop-at l = record {
  left : l.entries ≡ drop l.at l.journal.entries;
  within : l.at ≤ length l.journal.entries;
  before : (r : Recording) (count : ℕ) → IsOfRun r count → r.entries ≡ l.journal.entries → AreSpans r count l.spans → CameBefore r l.at l.latest;
}
