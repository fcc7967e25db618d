use Rattle.zy_finish.proofs.ReceivedLemmas.{offered_streams}
use Rattle.core_laws.proofs.ServedReceivedLemmas.{offered_ended}
use Rattle.core_laws.proofs.served.a_connection_receives_its_streams.Goals as goal

pub returns : goal.returns
returns c = record { streams = offered_streams; ended = offered_ended }
