use Rattle.run_laws.proofs.YesLemmas.{yes_is_run, yes_outputs, yes_spans}
use Rattle.run_laws.proofs.checks.yes_means_a_run.Goals as goal

pub returns : goal.returns
returns c = record { run = yes_is_run; outputs = yes_outputs; holds = yes_spans }
