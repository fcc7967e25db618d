use Rattle.zy_run.proofs.StreamLemmas.{length-streams_in, closes-version_1}
use Rattle.run_laws.proofs.runs.a_connection_has_a_session.Goals as goal

pub returns : goal.returns
returns c = record { count = length-streams_in; one = λ count conn records is. closes-version_1 count conn records is.lawful }
