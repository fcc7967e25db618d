use Rattle.std.proofs.Common.{◌≡◌, ℕ, subst}
use Rattle.std.proofs.lemmas.Result.{IfOk-weaker}
use Rattle.zy_times.specs.Recording.{Recording}
use Rattle.zy_times.specs.InTime.{HasTiming}
use Rattle.zy_times.specs.Recorded.{IsOfRun, OthersHaveNoMarks, HasNumbers, FoundLate}
use Rattle.zy_times.specs.Fitting.{FoundUnfitConnection}
use Rattle.zy_times.specs.Spans.{AreSpans}
use Rattle.zy_times.proofs.JudgeLemmas.{fits_of, early_of, timing_of}
use Rattle.zy_times.proofs.LateLemmas.{out_of_time}
use Rattle.zy_times.proofs.judging.timing_by.Goals as goal

pub returns-in-Some : goal.returns-in-Some
returns-in-Some c = record {
  timing = λ r count run entries spans others. early_of r count others c.in-Some.moment (subst (FoundUnfitConnection r count) c.in-Some.is spans.unfit);
}

pub returns-in-Some-2 : goal.returns-in-Some-2
returns-in-Some-2 c = record {
  timing = λ r count run entries spans others.
      let late = c.in_ok-entry.ensures.found r count run entries spans in
      let first = c.in_ok-after.ensures.found r count run entries spans in (
        fits_of r count others (subst (FoundUnfitConnection r count) c.in_default.is spans.unfit),
        out_of_time r c.in-Some-2.field-0.entry c.in-Some-2.field-0.moment c.in_ok-after.after (subst (FoundLate r) c.in-Some-2.is late) first,
      );
}

pub returns : goal.returns
returns c = record {
  timing = IfOk-weaker c.numbers.result
      (λ timing. (r : Recording) (count : ℕ) → AreSpans r count c.args.spans.now → HasNumbers r count timing)
      (λ timing. (r : Recording) (count : ℕ) → IsOfRun r count → r.entries ≡ c.args.journal.now.entries → AreSpans r count c.args.spans.now → OthersHaveNoMarks r count → HasTiming r count timing)
      (λ timing numbers r count run entries spans others.
      timing_of r count others timing run (subst (FoundUnfitConnection r count) c.in_default.is spans.unfit)
      (subst (FoundLate r) c.in_default-2.is (c.in_ok-entry.ensures.found r count run entries spans)) (numbers r count spans))
      c.numbers.ensures.value;
}
