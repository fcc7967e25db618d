-- The proof of the law `each_run_has_the_summary`.
use Rattle.zy_run.proofs.SummaryLemmas.{summary-run}
use Rattle.run_laws.proofs.runs.each_run_has_the_summary.Goals as goal

pub returns : goal.returns
returns c = record { value = summary-run }
