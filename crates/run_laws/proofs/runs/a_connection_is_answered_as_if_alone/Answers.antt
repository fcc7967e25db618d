-- The proof of the law `a_connection_is_answered_as_if_alone`.
use Rattle.run_laws.proofs.AloneLemmas.{outputs-alone}
use Rattle.run_laws.proofs.runs.a_connection_is_answered_as_if_alone.Goals as goal

pub returns : goal.returns
returns c = record { value = outputs-alone }
