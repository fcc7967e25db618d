-- Recorded packets that are all that a source gives.
use Rattle.std.proofs.Common.{◌≡◌, ℕ, true≢false, List, [], ◌++◌, refl, sym, ◌∙◌, ap, subst, append_assoc}
use Rattle.std.specs.Prelude.{Option, None, Result, Ok, Err, ⊤}
use Rattle.zy_read.specs.declared.not_taken.NotTaken.{NotTaken}
use Rattle.zy_read.specs.declared.not_taken.NotTaken.TheVariants.{Fault}
use Rattle.zy_read.specs.Format.{read_on, reading_of, fault_met}
use Rattle.zy_read.specs.declared.stop.Stop.{Stop}
use Rattle.zy_read.specs.declared.stop.Stop.TheVariants.{Refused, ReadFault, NoMemory}
use Rattle.zy_pcap.specs.declared.pcap_fault.PcapFault.{PcapFault}
use Rattle.zy_pcap.specs.Packets.{FoundPackets, recorded, packets, file_fault_met}
use Rattle.zy_pcap.specs.Packets.FoundPackets.{Packets, Bad}
use Rattle.zy_pcap.specs.Standing.{PcapReading, StandsForFile, FeedsFile, TellsFileFault, TellsLastingFault, FinishesAs, FinishesBy}
use Rattle.zy_input.specs.declared.packets_part.PacketsPart.{PacketsPart}
use Rattle.zy_input.specs.declared.stop.Refusal.{Refusal}
use Rattle.zy_input.specs.declared.stop.Refusal.TheVariants.{Capture, Journal as OfJournal, Replies as OfReplies, Items as OfItems, Pcap}
use Rattle.zy_input.specs.Parts.{HasPackets, HasReadPackets}
use Rattle.zy_input.specs.Reading.{IsUnfinished, IsFaultyText, HasFaultBehind, Reads, never}
use Rattle.zy_input.specs.Kinds.{StandsForPackets, packets_kind}
use Rattle.zy_input.proofs.FormatLemmas.{none_ever}
use Rattle.zy_input.proofs.PartLemmas.{if_some, read_all}

-- ---- where they begin

-- before the first byte there is no fault
pub no_fault : (port : ℕ) → IsUnfinished (recorded port) never []
unfolding fault_met reading_of read_on
no_fault port = (refl, refl)

-- the text has this fault as packets to the port
abbrev IsPacketsFault : ℕ → List ℕ → PcapFault → Type 0
IsPacketsFault port text fault = IsFaultyText (recorded port) never (λ (f : PcapFault). Pcap f) text (Pcap fault)

is_fault : (port : ℕ) (text : List ℕ) (fault : PcapFault) → packets port text ≡ Bad fault → IsPacketsFault port text fault
is_fault port text fault is = (fault, refl, none_ever (recorded port) text, is)

-- ---- further bytes

-- after a piece without a fault
pub packets_on : (port : ℕ) (part : PacketsPart) (new : PcapReading) (bytes piece : List ℕ) (answer : Result ⊤ (NotTaken PcapFault)) → answer ≡ Ok tt → StandsForPackets port part bytes → new.port ≡ part.reader.port → FeedsFile part.reader new piece → TellsFileFault part.reader piece answer
    → ((new.port ≡ port) × StandsForFile new (bytes ++ piece)) × IsUnfinished (recorded port) never (bytes ++ piece)
packets_on port part new bytes piece answer is stands same feeds tells =
    let met = subst (λ (a : Result ⊤ (NotTaken PcapFault)). TellsFileFault part.reader piece a) is tells in
    ((same ∙ stands.0, feeds bytes stands.1), (subst (λ (n : ℕ). file_fault_met n (bytes ++ piece) ≡ None) stands.0 (met bytes stands.1), refl))

-- after a fault, whatever follows
pub packets_faulty : (port : ℕ) (part : PacketsPart) (bytes piece more : List ℕ) (answer : Result ⊤ (NotTaken PcapFault)) (fault : PcapFault) → answer ≡ Err (Fault fault) → StandsForPackets port part bytes → TellsLastingFault part.reader piece answer → IsPacketsFault port ((bytes ++ piece) ++ more) fault
packets_faulty port part bytes piece more answer fault is stands tells =
    let lasts = subst (λ (a : Result ⊤ (NotTaken PcapFault)). TellsLastingFault part.reader piece a) is tells in
    is_fault port ((bytes ++ piece) ++ more) fault (subst (λ (n : ℕ). packets n ((bytes ++ piece) ++ more) ≡ Bad fault) stands.0 (ap (packets part.reader.port) (append_assoc bytes piece more) ∙ lasts bytes more stands.1))

-- ---- the end

streams_found : (found : FoundPackets) (port : ℕ) (bytes : List ℕ) (streams : List (List (List ℕ))) → packets port bytes ≡ found → FinishesAs found (Ok streams) → HasPackets port bytes streams
streams_found (Packets given) port bytes streams is finishes = record { given = given; good = is; joined = finishes }
streams_found (Bad fault) port bytes streams is finishes = absurd finishes

fault_found : (found : FoundPackets) (fault : PcapFault) → FinishesAs found (Err fault) → found ≡ Bad fault
fault_found (Packets given) fault finishes = absurd finishes
fault_found (Bad met) fault finishes = ap Bad (sym finishes)

pub ends_good : (port : ℕ) (part : PacketsPart) (bytes : List ℕ) (streams : List (List (List ℕ))) → StandsForPackets port part bytes → FinishesBy part.reader (Ok streams) → HasPackets port bytes streams
ends_good port part bytes streams stands finishes = streams_found (packets port bytes) port bytes streams refl (subst (λ (n : ℕ). FinishesAs (packets n bytes) (Ok streams)) stands.0 (finishes bytes stands.1))

pub ends_bad : (port : ℕ) (part : PacketsPart) (bytes : List ℕ) (fault : PcapFault) → StandsForPackets port part bytes → FinishesBy part.reader (Err fault) → IsPacketsFault port bytes fault
ends_bad port part bytes fault stands finishes =
    is_fault port bytes fault (fault_found (packets port bytes) fault (subst (λ (n : ℕ). FinishesAs (packets n bytes) (Err fault)) stands.0 (finishes bytes stands.1)))

-- ---- all of them

-- the fault is that of all the text
fault_behind : (port : ℕ) (text : List ℕ) (fault : PcapFault) → HasFaultBehind (packets_kind port) [] text (Pcap fault) → packets port text ≡ Bad fault
fault_behind port text fault behind =
    let met : PcapFault = behind.faulty.0 in
    let is : Pcap fault ≡ Pcap met = behind.faulty.1 in
    let same : met ≡ fault = cc in
    ap (packets port) behind.whole ∙ behind.faulty.3 ∙ ap Bad same

pub packets_read : {S : Type 0} (port : ℕ) (rest : S → Option (List ℕ)) (faults : S → ℕ) (first now : S) (left : List ℕ) (answer : Result (List (List (List ℕ))) (Stop Refusal)) → Reads (packets_kind port) rest faults first now left [] answer → HasReadPackets port rest faults first now answer
packets_read port rest faults first now left (Ok streams) has = (has.bytes, read_all (packets_kind port) rest faults first now left [] streams (λ text whole. true≢false (sym whole)) has, has.gives)
packets_read port rest faults first now left (Err (Refused (Pcap fault))) stops = if_some (rest first) (λ text. HasFaultBehind (packets_kind port) [] text (Pcap fault)) (λ text. packets port text ≡ Bad fault) (λ text. fault_behind port text fault) stops.1
packets_read port rest faults first now left (Err (Refused (Capture fault))) stops = let is : Capture fault ≡ Pcap stops.0.1.0 = stops.0.1.1 in cc
packets_read port rest faults first now left (Err (Refused (OfJournal fault))) stops = let is : OfJournal fault ≡ Pcap stops.0.1.0 = stops.0.1.1 in cc
packets_read port rest faults first now left (Err (Refused (OfReplies fault))) stops = let is : OfReplies fault ≡ Pcap stops.0.1.0 = stops.0.1.1 in cc
packets_read port rest faults first now left (Err (Refused (OfItems fault))) stops = let is : OfItems fault ≡ Pcap stops.0.1.0 = stops.0.1.1 in cc
packets_read port rest faults first now left (Err ReadFault) stops = stops
packets_read port rest faults first now left (Err NoMemory) stops = tt
