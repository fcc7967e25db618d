-- How many bytes a file of recorded packets has at least, by its packets: docs/FORMATS.md, "Recorded packets".
use Rattle.std.specs.Prelude.{ℕ, ◌+◌, List, [], ◌∷◌, length}
use Rattle.zy_pcap.specs.Packet.{Packet}

-- the number of bytes of all payloads
abbrev pub payload_bytes : List Packet → ℕ
payload_bytes [] = 0
payload_bytes (packet ∷ packets) = length packet.payload + payload_bytes packets

-- the number of bytes of a file's header
abbrev pub file_header : ℕ
file_header = 24

-- the least number of bytes of a packet's headers: those of its record, its frame, IP and TCP
abbrev pub packet_headers : ℕ
packet_headers = 16 + 14 + 20 + 20

-- the least number of bytes of the records of some packets
abbrev pub record_bytes : List Packet → ℕ
record_bytes [] = 0
record_bytes (packet ∷ packets) = packet_headers + length packet.payload + record_bytes packets
