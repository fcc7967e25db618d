use Rattle.run_laws.proofs.FileVerdictLemmas.{of_streams}
use Rattle.run_laws.proofs.checks.what_checks_is_of_a_run.Goals as goal

pub returns : goal.returns
returns c = record { run = of_streams; order = λ journal lawful. lawful.ordered }
