-- What the reader does at a byte and at the end of a record. No public clause cites this module.
use Rattle.std.specs.Prelude.{◌≡◌, ℕ, List, [], Option, None, Some, Result, Ok, Err, ⊤}
use Rattle.zy_read.specs.declared.not_taken.NotTaken.{NotTaken}
use Rattle.zy_read.specs.declared.not_taken.NotTaken.TheVariants.{Fault, NoMemory}
use Rattle.zy_read.specs.Fields.{Place, step}
use Rattle.zy_read.specs.Standing.{Feeds}
use Rattle.zy_pcap.specs.declared.pcap_fault.PcapFault.{PcapFault}
use Rattle.zy_pcap.specs.declared.kept_flow.KeptFlow.{KeptFlow}
use Rattle.zy_pcap.specs.Steps.{FilePlace}
use Rattle.zy_pcap.specs.Moves.{broken, then_record, without_last}
use Rattle.zy_pcap.specs.Frame.{judge}
use Rattle.zy_pcap.specs.Packet.{Packet}
use Rattle.zy_pcap.specs.Flow.{flows_of}
use Rattle.zy_pcap.specs.Kept.{KeepsFlows, MeetsAs}
use Rattle.zy_pcap.specs.Packets.{FileState, frame_fault, packets_with, packet_fields, recorded}
use Rattle.zy_pcap.specs.Standing.{PcapReading, IsAtPlace}

-- the place of a file, after these packets
abbrev pub with_packets : FilePlace → List Packet → Place FileState PcapFault
with_packets p packets =
    record { state = record { records = p.state; packets = packets }; seen = p.seen; at = p.at; fault = p.fault }

-- whatever packets were before, these more bytes lead to the new place
abbrev pub FeedsRecords : FilePlace → FilePlace → List ℕ → Type 0
FeedsRecords old new bytes =
    (port : ℕ) (packets : List Packet)
    → Feeds (recorded port) (with_packets old packets) (with_packets new packets) bytes []

-- the flows of some packets are kept
abbrev pub KeepsPackets : List (Option KeptFlow) → List Packet → Type 0
KeepsPackets kept packets = KeepsFlows kept (flows_of packets)

-- a frame comes, whose record begins at a place
abbrev pub MeetsFrame : ℕ → ℕ → List ℕ → List (Option KeptFlow) → List (Option KeptFlow)
    → Result ⊤ (NotTaken PcapFault) → Type 0
MeetsFrame port at frame old new result =
    MeetsAs KeepsPackets (λ packets. frame_fault at frame packets (judge port at frame))
    (λ packets. packets_with frame packets (judge port at frame)) old new result

-- the place after a record whose frame is whole; if an allocation failed its last byte is not read
abbrev pub PlaceIs : FilePlace → FilePlace → Result ⊤ (NotTaken PcapFault) → Type 0
PlaceIs old new (Ok u) = new ≡ then_record old
PlaceIs old new (Err (Fault fault)) = new ≡ broken old fault
PlaceIs old new (Err NoMemory) = new ≡ without_last old

-- the reader is after a byte, and this is the fault
abbrev pub IsAfter : PcapReading → Place FileState PcapFault → Option PcapFault → Type 0
IsAfter new p fault = IsAtPlace new p × (p.fault ≡ fault)

-- where a byte leads, after these packets
abbrev pub place_after : PcapReading → ℕ → List Packet → Place FileState PcapFault
place_after old byte packets = (step (packet_fields old.port) (with_packets old.place packets) byte).next

-- an answer to a byte, after these packets
abbrev pub FollowsBy : PcapReading → PcapReading → ℕ → List Packet → Result ⊤ (NotTaken PcapFault) → Type 0
FollowsBy old new byte packets (Ok u) = IsAfter new (place_after old byte packets) None
FollowsBy old new byte packets (Err (Fault fault)) = IsAfter new (place_after old byte packets) (Some fault)
FollowsBy old new byte packets (Err NoMemory) = (new.place ≡ old.place) × KeepsPackets new.kept packets

-- an answer to a byte, after all packets that may be kept
abbrev pub AnswersByte : PcapReading → PcapReading → ℕ → Result ⊤ (NotTaken PcapFault) → Type 0
AnswersByte old new byte result =
    (packets : List Packet) → KeepsPackets old.kept packets → FollowsBy old new byte packets result
