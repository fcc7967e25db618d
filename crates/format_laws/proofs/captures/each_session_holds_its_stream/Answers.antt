use Rattle.zy_capture.proofs.AddLemmas.{streams_size}
use Rattle.zy_capture.proofs.StreamLemmas.{count_held, stream_held}
use Rattle.format_laws.proofs.captures.each_session_holds_its_stream.Goals as goal

pub returns : goal.returns
returns c = record { connections = streams_size; count = count_held; bytes = stream_held }
