-- The texts of which the capture of recorded packets is made. No public clause cites this module.
use Rattle.std.specs.Prelude.{ℕ, zero, suc, List, [], ◌∷◌, ◌++◌, flat_map, Option, None, Some}
use Rattle.std.specs.Int.{to_be_bytes, w32}
use Rattle.zy_capture.specs.declared.record.Record.TheVariants as Kinds
use Rattle.zy_capture.specs.Capture.{spelled}
use Rattle.zy_capture.specs.Replies.{numbered_from}
use Rattle.zy_pcap.specs.declared.kept_session.KeptSession.{KeptSession}
use Rattle.zy_pcap.specs.declared.kept_flow.KeptFlow.{KeptFlow}
use Rattle.zy_pcap.specs.Made.{session_records}
use Rattle.zy_pcap.specs.Streams.{kept_stream}

-- the beginning of the capture: the magic of version 2, and the connection count
unfoldable pub start_text : ℕ → List ℕ
start_text count = 90 ∷ 89 ∷ 71 ∷ 67 ∷ 65 ∷ 80 ∷ 50 ∷ 10 ∷ to_be_bytes w32 count

-- a close record
unfoldable pub close_text : ℕ → List ℕ
close_text conn = spelled (Kinds.Close conn)

-- the beginning of a segment, with its length
unfoldable pub segment_head : ℕ → ℕ → List ℕ
segment_head conn size = 83 ∷ (to_be_bytes w32 conn ++ to_be_bytes w32 size)

-- a segment
unfoldable pub segment_text : ℕ → List ℕ → List ℕ
segment_text conn bytes = spelled (Kinds.Segment (record { conn = conn; bytes = bytes }))

-- the segments of a stream
unfoldable pub stream_text : ℕ → List ℕ → List ℕ
stream_text conn bytes = flat_map spelled (session_records conn bytes)

-- a session of this number, after a close record if it is not the first one
abbrev pub text_of_session : ℕ → ℕ → List ℕ → List ℕ
text_of_session conn zero bytes = stream_text conn bytes
text_of_session conn (suc number) bytes = close_text conn ++ stream_text conn bytes

-- the same of a session that is kept
abbrev pub kept_text : ℕ → ℕ → KeptSession → List ℕ
kept_text conn number session = text_of_session conn number (kept_stream session)

-- the sessions of a connection's flow
abbrev pub kept_connection : ℕ → Option KeptFlow → List ℕ
kept_connection conn None = []
kept_connection conn (Some flow) = numbered_from (kept_text conn) 0 flow.sessions.items
