use Rattle.format_laws.proofs.CaptureLengthLemmas.{streams_few, sessions_few}
use Rattle.format_laws.proofs.captures.a_capture_has_few_streams.Goals as goal

pub returns : goal.returns
returns c = record { bytes = streams_few; sessions = sessions_few }
