-- The capture of recorded packets: docs/FORMATS.md, "Capture", of version 2.
use Rattle.std.specs.Prelude.{ℕ, zero, suc, ◌+◌, List, [], ◌∷◌, ◌++◌, length, take, drop}
use Rattle.zy_capture.specs.declared.record.Record.{Record}
use Rattle.zy_capture.specs.declared.record.Record.TheVariants as Kinds
use Rattle.zy_capture.specs.Capture.{segment_limit, spelling}
use Rattle.zy_capture.specs.Verdict.{Verdict}
use Rattle.zy_capture.specs.Verdict.Verdict.{Good}
use Rattle.zy_pcap.specs.Packet.{Packet}
use Rattle.zy_pcap.specs.Flow.{flows_of, streams_of_flows}

-- ---- records

-- the segments of a connection that hold some bytes: each has 65,535 of them, and the last one the rest
abbrev pub segments_of : ℕ → ℕ → List ℕ → List Record
segments_of conn zero bytes = []
segments_of conn (suc most) [] = []
segments_of conn (suc most) (byte ∷ bytes) =
    Kinds.Segment (record { conn = conn; bytes = take segment_limit (byte ∷ bytes) })
    ∷ segments_of conn most (drop segment_limit (byte ∷ bytes))

-- the segments of a session
abbrev pub session_records : ℕ → List ℕ → List Record
session_records conn bytes = segments_of conn (length bytes) bytes

-- the records of a connection: a close record is between two sessions
abbrev pub connection_records : ℕ → List (List ℕ) → List Record
connection_records conn [] = []
connection_records conn (session ∷ []) = session_records conn session
connection_records conn (session ∷ next ∷ sessions) =
    session_records conn session ++ Kinds.Close conn ∷ connection_records conn (next ∷ sessions)

-- the records of all connections from some number on
abbrev pub records_from : ℕ → List (List (List ℕ)) → List Record
records_from conn [] = []
records_from conn (sessions ∷ connections) = connection_records conn sessions ++ records_from (conn + 1) connections

-- ---- the capture

-- the capture of the streams of all connections
unfoldable pub capture_of : List (List (List ℕ)) → List ℕ
capture_of streams = spelling 2 (length streams) (records_from 0 streams)

-- the capture of some packets
abbrev pub pcap_capture : List Packet → List ℕ
pcap_capture packets = capture_of (streams_of_flows (flows_of packets))

-- the verdict on it, if it is good: its version, the number of connections, and the records of their streams
abbrev pub pcap_verdict : List Packet → Verdict
pcap_verdict packets =
    Good 2 (length (streams_of_flows (flows_of packets))) (records_from 0 (streams_of_flows (flows_of packets)))
