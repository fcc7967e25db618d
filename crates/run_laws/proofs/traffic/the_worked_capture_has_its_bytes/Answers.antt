use Rattle.run_laws.proofs.WorkedTrafficLemmas.{worked}
use Rattle.run_laws.proofs.traffic.the_worked_capture_has_its_bytes.Goals as goal

pub returns : goal.returns
returns c = record { value = worked }
