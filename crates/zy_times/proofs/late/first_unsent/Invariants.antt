use Rattle.std.proofs.Common.{◌≡◌, ◌<◌, ◌≤◌, ℕ, length, drop, Some}
use Rattle.std.specs.List.{slice_get}
use Rattle.mc_calls.specs.declared.entry.Entry.{Entry}
use Rattle.zy_times.specs.Recording.{Recording}
use Rattle.zy_times.specs.InTime.{IsEntrySent}
use Rattle.zy_times.specs.Recorded.{IsOfRun}
use Rattle.zy_times.specs.Spans.{AreSpans}
use Rattle.zy_times.proofs.late.first_unsent.Given as goal

abbrev pub invariant-loop-at : goal.invariant-loop-at
invariant-loop-at l = record {
  left : l.entries ≡ drop l.at l.journal.entries;
  within : l.at ≤ length l.journal.entries;
  seen : (r : Recording) (count : ℕ) → IsOfRun r count → r.entries ≡ l.journal.entries → AreSpans r count l.spans → (p : ℕ) (e : Entry) → p < l.at → slice_get r.entries p ≡ Some e → IsEntrySent r e l.moment;
}
