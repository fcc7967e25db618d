-- What is found of a recording, from its times.
use Rattle.std.proofs.Common.{◌≡◌, ℕ, ◌-◌, ◌≤◌, None, Some}
use Rattle.zy_times.specs.declared.timing.Timing.{Timing}
use Rattle.zy_times.specs.declared.timing.Timing.TheVariants.{InTime, EarlyEnd, OutOfTime}
use Rattle.zy_times.specs.Recording.{Recording, MarksFit}
use Rattle.zy_times.specs.Sessions.{marks_at}
use Rattle.zy_times.specs.InTime.{IsEarlyEnd, HasTiming}
use Rattle.zy_times.specs.Fitting.{FoundUnfitConnection}
use Rattle.zy_times.specs.Recorded.{IsOfRun, OthersHaveNoMarks, HasNumbers, FoundLate}
use Rattle.zy_times.proofs.FitLemmas.{never_marked, marks_fit, early_end}
use Rattle.zy_times.proofs.InTimeLemmas.{in_time}

module _ (r : Recording) (count : ℕ) (none : OthersHaveNoMarks r count) where
  others : (conn session moment : ℕ) → count ≤ conn → marks_at r.records conn session moment ≡ 0
  others conn session moment past = never_marked r conn session moment (none conn session past)

  pub fits_of : FoundUnfitConnection r count None → MarksFit r
  fits_of found = marks_fit r count others found

  pub early_of : (moment : ℕ) → FoundUnfitConnection r count (Some moment) → IsEarlyEnd r (moment - 1)
  early_of moment found = early_end r count others moment found

  pub timing_of : (timing : Timing) → IsOfRun r count → FoundUnfitConnection r count None → FoundLate r None → HasNumbers r count timing → HasTiming r count timing
  timing_of (InTime commands ended) run found on_time numbers = (fits_of found, in_time r (fits_of found) run.commands on_time, numbers.0, numbers.1)
  timing_of (EarlyEnd at) run found on_time numbers = absurd numbers
  timing_of (OutOfTime entry after) run found on_time numbers = absurd numbers
