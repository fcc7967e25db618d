-- A recording has one timing.
use Rattle.std.proofs.Common.{◌≡◌, ℕ, ◌+◌, ap, sym, ◌∙◌, subst, arith}
use mathlib.Core.Logic.{dite}
use native.Mathlib.Decide.{dec_lt}
use Rattle.zy_times.specs.Recording.{Recording, MarksFit}
use Rattle.zy_times.specs.InTime.{IsInTime, IsEarlyEnd, IsOutOfTime, HasTiming}
use Rattle.zy_times.specs.declared.timing.Timing.{Timing}
use Rattle.zy_times.specs.declared.timing.Timing.TheVariants.{InTime, EarlyEnd, OutOfTime}
use Rattle.zy_times.proofs.InTimeLemmas.{none_late}
use Rattle.judge_laws.proofs.EndedLemmas.{one_number}

module _ (r : Recording) where
  one_early : (at other : ℕ) → IsEarlyEnd r at → IsEarlyEnd r other → at ≡ other
  one_early at other one two = dite (dec_lt at other)
      (λ below. absurd (one.wrong (two.before (at + 1) (omega (arith, below)))))
      (λ not_below. dite (dec_lt other at)
      (λ above. absurd (two.wrong (one.before (other + 1) (omega (arith, above)))))
      (λ level. omega arith))

  fit_not_early : (at : ℕ) → MarksFit r → IsEarlyEnd r at → ⊥
  fit_not_early at fit early = early.wrong (fit (at + 1))

  one_last : (last first later other : ℕ) → IsOutOfTime r last first → IsOutOfTime r later other → last ≡ later
  one_last last first later other one two = dite (dec_lt last later)
      (λ below. absurd (two.before first last one.order below one.late))
      (λ not_below. dite (dec_lt later last)
      (λ above. absurd (one.before other later two.order above two.late))
      (λ level. omega arith))

  one_first : (last first other : ℕ) → IsOutOfTime r last first → IsOutOfTime r last other → first ≡ other
  one_first last first other one two = dite (dec_lt first other)
      (λ below. absurd (two.least first below one.late))
      (λ not_below. dite (dec_lt other first)
      (λ above. absurd (one.least other above two.late))
      (λ level. omega arith))

  in_time_not_late : (last first : ℕ) → IsInTime r → IsOutOfTime r last first → ⊥
  in_time_not_late last first in_time late = none_late r in_time first last late.order late.late

  pub one_timing : (count : ℕ) (one other : Timing) → HasTiming r count one → HasTiming r count other → one ≡ other
  one_timing count (InTime commands ended) (InTime all marked) first second =
      let same : commands ≡ all = first.2 ∙ sym second.2 in
      let number : ended ≡ marked = one_number r count ended marked first.3 second.3 in
      λ i. InTime (same i) (number i)
  one_timing count (InTime commands ended) (EarlyEnd at) first second = absurd (fit_not_early at first.0 second)
  one_timing count (InTime commands ended) (OutOfTime last earlier) first second = absurd (in_time_not_late last earlier first.1 second.1)
  one_timing count (EarlyEnd at) (InTime commands ended) first second = absurd (fit_not_early at second.0 first)
  one_timing count (EarlyEnd at) (EarlyEnd other) first second = ap (λ (n : ℕ). EarlyEnd n) (one_early at other first second)
  one_timing count (EarlyEnd at) (OutOfTime last earlier) first second = absurd (fit_not_early at second.0 first)
  one_timing count (OutOfTime last earlier) (InTime commands ended) first second = absurd (in_time_not_late last earlier second.1 first.1)
  one_timing count (OutOfTime last earlier) (EarlyEnd at) first second = absurd (fit_not_early at first.0 second)
  one_timing count (OutOfTime last earlier) (OutOfTime later other) first second =
      let same : last ≡ later = one_last last earlier later other first.1 second.1 in
      let before : earlier ≡ other = one_first later earlier other (subst (λ (n : ℕ). IsOutOfTime r n earlier) same first.1) second.1 in
      λ i. OutOfTime (same i) (before i)
