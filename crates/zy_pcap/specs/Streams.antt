-- The streams that are kept. No public clause cites this module.
use Rattle.std.specs.Prelude.{ℕ, List, [], map, Option, None, Some}
use Rattle.zy_pcap.specs.declared.kept_session.KeptSession.{KeptSession}
use Rattle.zy_pcap.specs.declared.kept_flow.KeptFlow.{KeptFlow}
use Rattle.zy_pcap.specs.Session.{longest}
use Rattle.zy_pcap.specs.Held.{byte_held}

-- the stream of a session
abbrev pub kept_stream : KeptSession → List ℕ
kept_stream session = longest (byte_held session.bytes)

-- the streams of a flow
abbrev pub streams_by : Option KeptFlow → List (List ℕ)
streams_by None = []
streams_by (Some flow) = map kept_stream flow.sessions.items

-- the streams of all flows
unfoldable pub kept_streams : List (Option KeptFlow) → List (List (List ℕ))
kept_streams flows = map streams_by flows
