use Rattle.zy_run.proofs.OutputLemmas.{length-outputs_of, outputs_of-at}
use Rattle.run_laws.proofs.runs.each_session_has_its_output.Goals as goal

pub returns : goal.returns
returns c = record { count = length-outputs_of; value = outputs_of-at }
