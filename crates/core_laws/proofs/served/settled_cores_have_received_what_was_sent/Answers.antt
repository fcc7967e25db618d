use Rattle.zy_finish.proofs.TakeLemmas.{all_received}
use Rattle.core_laws.proofs.served.settled_cores_have_received_what_was_sent.Goals as goal

pub returns : goal.returns
returns c = record { received = all_received }
