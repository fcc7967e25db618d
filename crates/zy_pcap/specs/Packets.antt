-- The packets of a file, or its first fault: what its fields do when each frame that they give is
-- judged.
use Rattle.std.specs.Prelude.{ℕ, List, [], ◌∷◌, ◌++◌, Option, None, Some, ⊤}
use Rattle.zy_read.specs.Format.{Format, fault_met, verdict_on}
use Rattle.zy_read.specs.Fields as Reads
use Rattle.zy_read.specs.Fields.{Fields, Place, format_of}
use Rattle.zy_read.specs.Fields.Judged.{Then, Gives, Wrong}
use Rattle.zy_pcap.specs.declared.pcap_fault.PcapFault.{PcapFault}
use Rattle.zy_pcap.specs.declared.pcap_state.PcapState.{PcapState}
use Rattle.zy_pcap.specs.declared.judged.Judged.{Judged}
use Rattle.zy_pcap.specs.declared.judged.Judged.TheVariants.{Passed, Refused, Taken}
use Rattle.zy_pcap.specs.Steps.{DueJudged, frames}
use Rattle.zy_pcap.specs.Frame.{judge}
use Rattle.zy_pcap.specs.Packet.{Packet, packet_in}
use Rattle.zy_pcap.specs.Flow.{flows_of, flow_fault}

-- ---- the end of a record

-- the state of a file: that of its records, and the packets before
pub record FileState : Type 0 where
  pub records : PcapState
  pub packets : List Packet

-- the fault of a frame whose record is at a place, after some packets
abbrev pub frame_fault : ℕ → List ℕ → List Packet → Judged → Option PcapFault
frame_fault at frame packets Passed = None
frame_fault at frame packets (Refused fault) = Some fault
frame_fault at frame packets (Taken segment) = flow_fault (flows_of packets) (packet_in frame segment) at

-- the packets with that of a frame
abbrev pub packets_with : List ℕ → List Packet → Judged → List Packet
packets_with frame packets (Taken segment) = packets ++ packet_in frame segment ∷ []
packets_with frame packets judged = packets

-- ---- the fields

-- what a whole field does
abbrev pub FieldJudged : Type 0
FieldJudged = Reads.Judged FileState ⊤ PcapFault

-- the end of a record: it has this fault, or the state is next
abbrev pub record_settled : Option PcapFault → FileState → FieldJudged
record_settled None next = Then next
record_settled (Some fault) next = Wrong fault

-- the end of a record with this frame, by what the frame is and the next state of the records
abbrev pub record_ended : FileState → PcapState → List ℕ → Judged → FieldJudged
record_ended s next frame judged =
    record_settled (frame_fault s.records.begun frame s.packets judged)
    (record { records = next; packets = packets_with frame s.packets judged })

-- what a field of the records does
abbrev pub file_does : ℕ → FileState → DueJudged → FieldJudged
file_does port s (Then next) = Then (record s { records = next })
file_does port s (Gives next frame) = record_ended s next frame (judge port s.records.begun frame)
file_does port s (Wrong fault) = Wrong fault

-- the fields of a file with packets to a port
abbrev pub packet_fields : ℕ → Fields FileState ⊤ PcapFault
packet_fields port = record {
  start = record { records = frames.start; packets = [] };
  width = λ s. frames.width s.records;
  judge = λ s at field. file_does port s (frames.judge s.records at field);
  is_end = λ s. frames.is_end s.records;
  limit = frames.limit;
  too_long = frames.too_long;
  truncated = frames.truncated;
}

-- ---- a whole file

-- what a file is: its packets to the port, or its first fault
pub data FoundPackets : Type 0 where
  Packets : List Packet → FoundPackets
  Bad : PcapFault → FoundPackets

-- the packets of a file that ends before a record
abbrev pub found : FileState → List ⊤ → FoundPackets
found s given = Packets s.packets

-- the format of recorded packets
abbrev pub recorded : ℕ → Format (Place FileState PcapFault) ⊤ PcapFault FoundPackets
recorded port = format_of (packet_fields port) found Bad

-- the packets of a file to a port, or its first fault
abbrev pub packets : ℕ → List ℕ → FoundPackets
packets port bytes = verdict_on (recorded port) bytes

-- the fault that was met in some bytes; their end is not a fault here
abbrev pub file_fault_met : ℕ → List ℕ → Option PcapFault
file_fault_met port bytes = fault_met (recorded port) bytes
