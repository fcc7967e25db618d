use Rattle.std.proofs.Common.{◌≡◌, ℕ}
use Rattle.std.proofs.lemmas.Result.{IfOk-weaker}
use Rattle.zy_times.specs.Recording.{Recording}
use Rattle.zy_times.specs.InTime.{HasTiming}
use Rattle.zy_times.specs.Recorded.{IsRecorded, IsOfRun, OthersHaveNoMarks}
use Rattle.zy_times.specs.Spans.{AreSpans}
use Rattle.zy_times.proofs.judging.judge.Goals as goal

pub returns : goal.returns
returns c = record {
  timing = IfOk-weaker c.timing_by-timing.result
      (λ timing. (r : Recording) (count : ℕ) → IsOfRun r count → r.entries ≡ c.args.journal.now.entries → AreSpans r count c.in_ok-spans.spans → OthersHaveNoMarks r count → HasTiming r count timing)
      (λ timing. (r : Recording) (count : ℕ) → IsRecorded r count c.args.times.now c.args.answered.now c.args.journal.now.entries → HasTiming r count timing)
      (λ timing found r count is. found r count is.of_run is.entries_are (c.in_ok-spans.ensures.spans r count is.kept) is.kept.times_hold.others)
      c.timing_by-timing.ensures.timing;
}
