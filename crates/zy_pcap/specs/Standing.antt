-- The bytes that brought a reader of recorded packets to where it is, and the meaning of its answers.
use Rattle.std.specs.Prelude.{◌≡◌, ℕ, ◌+◌, List, [], ◌++◌, Option, None, Some, Result, Ok, Err, ⊤}
use Rattle.zy_read.specs.declared.not_taken.NotTaken.{NotTaken}
use Rattle.zy_read.specs.declared.not_taken.NotTaken.TheVariants.{Fault, NoMemory}
use Rattle.zy_pcap.specs.declared.pcap_fault.PcapFault.{PcapFault}
use Rattle.zy_pcap.specs.declared.kept_flow.KeptFlow.{KeptFlow}
use Rattle.zy_read.specs.Format.{reading_of}
use Rattle.zy_read.specs.Fields.{Place}
use Rattle.zy_pcap.specs.Steps.{FilePlace}
use Rattle.zy_pcap.specs.Flow.{flows_of, streams_of_flows}
use Rattle.zy_pcap.specs.Packets.{FileState, FoundPackets, recorded, packets, file_fault_met}
use Rattle.zy_pcap.specs.Packets.FoundPackets.{Packets, Bad}
use Rattle.zy_pcap.specs.Kept.{KeepsFlows}

-- a reader: its port, how far it is, and what it keeps
pub record PcapReading : Type 0 where
  pub port : ℕ
  pub place : FilePlace
  pub kept : List (Option KeptFlow)

-- the place without its packets
abbrev pub without_packets : Place FileState PcapFault → FilePlace
without_packets p = record { state = p.state.records; seen = p.seen; at = p.at; fault = p.fault }

-- the reader is at this place, and keeps the flows of its packets
abbrev pub IsAtPlace : PcapReading → Place FileState PcapFault → Type 0
IsAtPlace r p = (r.place ≡ without_packets p) × KeepsFlows r.kept (flows_of p.state.packets)

-- these bytes were fed, one after another
unfoldable pub StandsForFile : PcapReading → List ℕ → Type 0
StandsForFile r fed = IsAtPlace r (reading_of (recorded r.port) fed).last

-- whatever bytes led to the old reader, these more bytes lead to the new one
abbrev pub FeedsFile : PcapReading → PcapReading → List ℕ → Type 0
FeedsFile old new bytes = (b : List ℕ) → StandsForFile old b → StandsForFile new (b ++ bytes)

-- after these more bytes, this is the fault that was met
abbrev pub Meets : PcapReading → List ℕ → Option PcapFault → Type 0
Meets old bytes fault = (b : List ℕ) → StandsForFile old b → file_fault_met old.port (b ++ bytes) ≡ fault

-- after these more bytes, this is the fault of every longer file
abbrev pub Lasts : PcapReading → List ℕ → PcapFault → Type 0
Lasts old bytes fault =
    (b more : List ℕ) → StandsForFile old b → packets old.port (b ++ (bytes ++ more)) ≡ Bad fault

-- the bytes were fed; none of them if an allocation failed
abbrev pub FeedsFileAs : PcapReading → PcapReading → List ℕ → Result ⊤ (NotTaken PcapFault) → Type 0
FeedsFileAs old new bytes (Err NoMemory) = FeedsFile old new []
FeedsFileAs old new bytes answer = FeedsFile old new bytes

-- the number of bytes taken, when the byte after `before` others was a fault or was not taken
abbrev pub taken_before : ℕ → NotTaken PcapFault → ℕ
taken_before before (Fault fault) = before + 1
taken_before before NoMemory = before

-- the answer is the fault that was met
abbrev pub TellsFileFault : PcapReading → List ℕ → Result ⊤ (NotTaken PcapFault) → Type 0
TellsFileFault old bytes (Ok u) = Meets old bytes None
TellsFileFault old bytes (Err (Fault fault)) = Meets old bytes (Some fault)
TellsFileFault old bytes (Err NoMemory) = ⊤

-- a fault that an answer reports lasts
abbrev pub TellsLastingFault : PcapReading → List ℕ → Result ⊤ (NotTaken PcapFault) → Type 0
TellsLastingFault old bytes (Err (Fault fault)) = Lasts old bytes fault
TellsLastingFault old bytes answer = ⊤

-- an answer at the end of a file is its streams, or its first fault
abbrev pub FinishesAs : FoundPackets → Result (List (List (List ℕ))) PcapFault → Type 0
FinishesAs (Packets given) (Ok streams) = streams ≡ streams_of_flows (flows_of given)
FinishesAs (Bad fault) (Err met) = met ≡ fault
FinishesAs found answer = ⊥

-- the answer at the end of the bytes that were fed
abbrev pub FinishesBy : PcapReading → Result (List (List (List ℕ))) PcapFault → Type 0
FinishesBy r answer = (b : List ℕ) → StandsForFile r b → FinishesAs (packets r.port b) answer
