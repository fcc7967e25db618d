-- Packets to the port: their flow, their sequence number, their SYN flag and their payload.
use Rattle.std.specs.Prelude.{ℕ, ◌+◌, ◌<◌, ◌≤◌, Bool, List, length, slice_range, ⊤}
use Rattle.zy_pcap.specs.declared.judged.Segment.{Segment}
use Rattle.zy_pcap.specs.declared.judged.Judged.{Judged}
use Rattle.zy_pcap.specs.declared.judged.Judged.TheVariants.{Taken}

-- a packet to the port
pub record Packet : Type 0 where
  -- source address, destination address, source port, destination port
  pub flow : List ℕ
  pub sequence : ℕ
  pub is_syn : Bool
  pub payload : List ℕ

-- a packet with this payload
abbrev pub packet_with : Segment → List ℕ → Packet
packet_with segment payload =
    record {
      flow = segment.flow;
      sequence = segment.sequence;
      is_syn = segment.is_syn;
      payload = payload;
    }

-- the packet of a frame
abbrev pub packet_in : List ℕ → Segment → Packet
packet_in frame segment = packet_with segment (slice_range frame segment.begin (segment.begin + segment.size))

-- the payload of a packet is within its frame, and has at most 65,535 bytes
abbrev pub IsCarried : List ℕ → Judged → Type 0
IsCarried frame (Taken segment) = (segment.begin + segment.size ≤ length frame) × (segment.size < 65536)
IsCarried frame judged = ⊤
