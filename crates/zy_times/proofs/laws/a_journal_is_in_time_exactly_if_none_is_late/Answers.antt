use Rattle.zy_times.proofs.InTimeLemmas.{none_late, in_time}
use Rattle.zy_times.proofs.laws.a_journal_is_in_time_exactly_if_none_is_late.Goals as goal

pub returns : goal.returns
returns c = record { exact = λ r fit commands. (λ timely. none_late r timely, λ none. in_time r fit commands none) }
