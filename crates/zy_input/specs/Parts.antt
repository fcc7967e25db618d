-- The input of the command check: a capture, a journal and a replies file, one after the other. The
-- end of each part is known from its own bytes, and the first fault of the input counts. And the input of
-- other commands: a journal alone, and recorded packets.
use Rattle.std.specs.Prelude.{◌≡◌, ℕ, true, List, ◌++◌, Option, Result, Ok, Err, IfSome, ⊤}
use Rattle.std.specs.Io.KnownBytes.{Consumes}
use Rattle.zy_base.specs.declared.file_fault.FileFault.{FileFault}
use Rattle.zy_base.specs.Outside.{Rose}
use Rattle.zy_capture.specs.declared.record.Record.{Record}
use Rattle.zy_capture.specs.declared.record.Record.TheVariants as Kinds
use Rattle.zy_capture.specs.declared.capture_fault.CaptureFault.{CaptureFault}
use Rattle.zy_capture.specs.Streams.{no_bytes, with_records}
use Rattle.zy_capture.specs.Outputs.{AllOutputs, AreOutputs}
use Rattle.zy_capture.specs.Replies.{items_of}
use Rattle.zy_capture.specs.Verdict as Captures
use Rattle.zy_capture.specs.RepliesVerdict as Replies
use Rattle.zy_pcap.specs.Flow.{flows_of, streams_of_flows}
use Rattle.zy_pcap.specs.Packet.{Packet}
use Rattle.zy_pcap.specs.Packets.{packets}
use Rattle.zy_pcap.specs.Packets.FoundPackets.{Packets, Bad}
use Rattle.zy_journal.specs.declared.journal.Journal.{Journal}
use Rattle.zy_journal_reader.specs.Verdict as Journals
use Rattle.zy_input.specs.declared.parts.Parts.{Parts}
use Rattle.zy_input.specs.declared.parts.NotedParts.{NotedParts}
use Rattle.zy_input.specs.declared.stop.Refusal.{Refusal}
use Rattle.zy_input.specs.declared.stop.Refusal.TheVariants.{Capture, Journal as OfJournal}
use Rattle.zy_input.specs.declared.stop.Refusal.TheVariants.{Replies as OfReplies, Items, Pcap}
use Rattle.zy_read.specs.Bytes.{ReadsAll}
use Rattle.zy_read.specs.declared.stop.Stop.{Stop}
use Rattle.zy_read.specs.declared.stop.Stop.TheVariants.{Refused, ReadFault, NoMemory}

-- ---- parts

-- the text is a capture
abbrev pub IsCaptureText : List ℕ → Type 0
IsCaptureText text = Captures.is_good (Captures.verdict text) ≡ true

-- the text is a journal
abbrev pub IsJournalText : List ℕ → Type 0
IsJournalText text = Journals.is_good_journal (Journals.journal_verdict text) ≡ true

-- the text is a capture with these streams
pub record HasStreams (text : List ℕ) (streams : List (List (List ℕ))) : Type 0 where
  pub version : ℕ
  pub count : ℕ
  pub records : List Record
  pub good : Captures.verdict text ≡ Captures.Verdict.Good version count records
  pub joined : streams ≡ with_records (no_bytes count) records

-- the connection of a record
abbrev pub conn_of : Record → ℕ
conn_of (Kinds.Segment s) = s.conn
conn_of (Kinds.Close conn) = conn

-- the text is a capture with these streams, and these are notes on its records
pub record HasNotes {N : Type 0} (Holds : N → ℕ → List Record → Type 0) (text : List ℕ)
    (streams : List (List (List ℕ))) (notes : N) : Type 0 where
  pub capture : HasStreams text streams
  pub noted : Holds notes capture.count capture.records

-- the text is recorded packets, and these are the streams of those to the port
pub record HasPackets (port : ℕ) (text : List ℕ) (streams : List (List (List ℕ))) : Type 0 where
  pub given : List Packet
  pub good : packets port text ≡ Packets given
  pub joined : streams ≡ streams_of_flows (flows_of given)

-- the text is a capture with these streams, then this journal, and then a replies file with these outputs
pub record IsMadeOfParts (text : List ℕ) (streams : List (List (List ℕ))) (journal : Journal)
    (outputs : AllOutputs) : Type 0 where
  pub capture_text : List ℕ
  pub journal_text : List ℕ
  pub replies_text : List ℕ
  pub whole : text ≡ capture_text ++ (journal_text ++ replies_text)
  pub of_capture : HasStreams capture_text streams
  pub of_journal : Journals.journal_verdict journal_text ≡ Journals.JournalVerdict.Good journal
  pub of_replies : Replies.verdict replies_text ≡ Replies.Verdict.Good outputs.version (items_of outputs)

-- the same, and these are notes on the records of the capture
pub record IsMadeOfNotedParts {N : Type 0} (Holds : N → ℕ → List Record → Type 0) (text : List ℕ)
    (streams : List (List (List ℕ))) (notes : N) (journal : Journal) (outputs : AllOutputs) : Type 0 where
  pub parts : IsMadeOfParts text streams journal outputs
  pub noted : Holds notes parts.of_capture.count parts.of_capture.records

-- ---- faults

-- no prefix of the text is a capture
abbrev pub HasNoCapture : List ℕ → Type 0
HasNoCapture text = (front back : List ℕ) → text ≡ front ++ back → ¬ IsCaptureText front

-- no prefix of the text is a journal
abbrev pub HasNoJournal : List ℕ → Type 0
HasNoJournal text = (front back : List ℕ) → text ≡ front ++ back → ¬ IsJournalText front

-- the text begins with no capture, and has this fault as one
pub record HasCaptureFault (text : List ℕ) (fault : CaptureFault) : Type 0 where
  pub none : HasNoCapture text
  pub bad : Captures.verdict text ≡ Captures.Verdict.Bad fault

-- the text is a capture, and then a text that begins with no journal, and has this fault as one
pub record HasJournalFault (text : List ℕ) (fault : FileFault) : Type 0 where
  pub capture_text : List ℕ
  pub rest : List ℕ
  pub whole : text ≡ capture_text ++ rest
  pub of_capture : IsCaptureText capture_text
  pub none : HasNoJournal rest
  pub bad : Journals.journal_verdict rest ≡ Journals.JournalVerdict.Bad fault

-- the text is a capture, then a journal, and then a text that has this fault as a replies file
pub record HasRepliesFault (text : List ℕ) (fault : FileFault) : Type 0 where
  pub capture_text : List ℕ
  pub journal_text : List ℕ
  pub rest : List ℕ
  pub whole : text ≡ capture_text ++ (journal_text ++ rest)
  pub of_capture : IsCaptureText capture_text
  pub of_journal : IsJournalText journal_text
  pub bad : Replies.verdict rest ≡ Replies.Verdict.Bad fault

-- the first fault of the text; its place counts from the start of its part
abbrev pub HasPartFault : List ℕ → Refusal → Type 0
HasPartFault text (Capture fault) = HasCaptureFault text fault
HasPartFault text (OfJournal fault) = HasJournalFault text fault
HasPartFault text (OfReplies fault) = HasRepliesFault text fault
HasPartFault text (Items fault) = ⊥
HasPartFault text (Pcap fault) = ⊥

-- an input of a check can have this fault
abbrev pub IsPartFault : Refusal → Type 0
IsPartFault refusal = (text : List ℕ) × HasPartFault text refusal

-- ---- reading

-- the parts are those of all that the source gave; or some input has this fault, and the source's text
-- has it, if that is known; or the count of faults rose, or is at its largest value; `NoMemory` needs no cause
abbrev pub HasReadParts : {S : Type 0} → (S → Option (List ℕ)) → (S → ℕ) → S → S → Result Parts (Stop Refusal) → Type 0
HasReadParts rest faults first now (Ok parts) =
    (text : List ℕ) × ReadsAll (rest first) (rest now) text
    × IsMadeOfParts text parts.streams parts.journal parts.outputs
    × AreOutputs parts.outputs
HasReadParts rest faults first now (Err (Refused refusal)) =
    IsPartFault refusal × IfSome (rest first) (λ text. HasPartFault text refusal)
HasReadParts rest faults first now (Err ReadFault) = Rose (faults first) (faults now)
HasReadParts rest faults first now (Err NoMemory) = ⊤

-- the same, with notes on the records of the capture
abbrev pub HasReadNotedParts : {N S : Type 0} → (N → ℕ → List Record → Type 0) → (S → Option (List ℕ)) → (S → ℕ) → S → S
    → Result (NotedParts N) (Stop Refusal) → Type 0
HasReadNotedParts Holds rest faults first now (Ok parts) =
    (text : List ℕ) × ReadsAll (rest first) (rest now) text
    × IsMadeOfNotedParts Holds text parts.capture.streams parts.capture.notes parts.journal parts.outputs
    × AreOutputs parts.outputs
HasReadNotedParts Holds rest faults first now (Err (Refused refusal)) =
    IsPartFault refusal × IfSome (rest first) (λ text. HasPartFault text refusal)
HasReadNotedParts Holds rest faults first now (Err ReadFault) = Rose (faults first) (faults now)
HasReadNotedParts Holds rest faults first now (Err NoMemory) = ⊤

-- the source gave a capture with these streams, and may have given some bytes after it; if all that
-- it held is a capture, it is this one
pub record HasGivenStreams (before after : Option (List ℕ)) (streams : List (List (List ℕ))) : Type 0 where
  pub text : List ℕ
  pub behind : List ℕ
  pub given : Consumes before after (text ++ behind)
  pub are : HasStreams text streams
  pub all : IfSome before (λ told. IsCaptureText told → told ≡ text)

-- the streams are those of the capture that the source gave; or it has this fault; or the source's
-- count of faults rose, or is at its largest value; `NoMemory` needs no cause
abbrev pub HasReadStreams : {S : Type 0} → (S → Option (List ℕ)) → (S → ℕ) → S → S
    → Result (List (List (List ℕ))) (Stop Refusal) → Type 0
HasReadStreams rest faults first now (Ok streams) = HasGivenStreams (rest first) (rest now) streams
HasReadStreams rest faults first now (Err (Refused (Capture fault))) =
    IfSome (rest first) (λ text. HasCaptureFault text fault)
HasReadStreams rest faults first now (Err (Refused other)) = ⊥
HasReadStreams rest faults first now (Err ReadFault) = Rose (faults first) (faults now)
HasReadStreams rest faults first now (Err NoMemory) = ⊤

-- the journal is that of all that the source gave; or its text has this fault as a journal; or the
-- source's count of faults rose, or is at its largest value; `NoMemory` needs no cause
abbrev pub HasReadJournal : {S : Type 0} → (S → Option (List ℕ)) → (S → ℕ) → S → S → Result Journal (Stop Refusal)
    → Type 0
HasReadJournal rest faults first now (Ok journal) =
    (text : List ℕ) × ReadsAll (rest first) (rest now) text
    × (Journals.journal_verdict text ≡ Journals.JournalVerdict.Good journal)
HasReadJournal rest faults first now (Err (Refused (OfJournal fault))) =
    IfSome (rest first) (λ text. Journals.journal_verdict text ≡ Journals.JournalVerdict.Bad fault)
HasReadJournal rest faults first now (Err (Refused other)) = ⊥
HasReadJournal rest faults first now (Err ReadFault) = Rose (faults first) (faults now)
HasReadJournal rest faults first now (Err NoMemory) = ⊤

-- the streams are those of the packets in all that the source gave; or its text has this fault as recorded packets; or
-- the source's count of faults rose, or is at its largest value; `NoMemory` needs no cause
abbrev pub HasReadPackets : {S : Type 0} → ℕ → (S → Option (List ℕ)) → (S → ℕ) → S → S
    → Result (List (List (List ℕ))) (Stop Refusal) → Type 0
HasReadPackets port rest faults first now (Ok streams) =
    (text : List ℕ) × ReadsAll (rest first) (rest now) text × HasPackets port text streams
HasReadPackets port rest faults first now (Err (Refused (Pcap fault))) =
    IfSome (rest first) (λ text. packets port text ≡ Bad fault)
HasReadPackets port rest faults first now (Err (Refused other)) = ⊥
HasReadPackets port rest faults first now (Err ReadFault) = Rose (faults first) (faults now)
HasReadPackets port rest faults first now (Err NoMemory) = ⊤
