-- The proof of the law `serial_is_a_run`.
use Rattle.zy_run.proofs.SummaryLemmas.{serial_is_run}
use Rattle.run_laws.proofs.SummaryLemmas.{serial_ordered}
use Rattle.run_laws.proofs.runs.serial_is_a_run.Goals as goal

pub returns : goal.returns
returns c = record { run = serial_is_run; order = serial_ordered }
