use Rattle.zy_home.proofs.FinishLemmas.{conn_end}
use Rattle.core_laws.proofs.homes.an_idle_connection_is_finished.Goals as goal

pub returns : goal.returns
returns c = record { value = conn_end }
