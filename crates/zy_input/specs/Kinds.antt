-- The kinds of parts: which bytes brought their readers to where they are, and what a text of each kind gives. No
-- public clause cites this module.
use Rattle.std.specs.Prelude.{◌≡◌, ℕ, ◌^◌, ◌<◌, Bool, List, length, ⊤}
use Rattle.zy_base.specs.declared.file_fault.FileFault.{FileFault}
use Rattle.zy_capture.specs.declared.capture_fault.CaptureFault.{CaptureFault}
use Rattle.zy_capture.specs.declared.record.Record.{Record}
use Rattle.zy_capture.specs.declared.record.Record.TheVariants as Kinds
use Rattle.zy_capture.specs.declared.session_bytes.SessionBytes.{SessionBytes}
use Rattle.zy_capture.specs.Streams.{sessions_of, no_bytes, with_records}
use Rattle.zy_capture.specs.Steps as CaptureSteps
use Rattle.zy_capture.specs.Outputs.{AllOutputs, AreOutputs}
use Rattle.zy_capture.specs.Replies.{items_of}
use Rattle.zy_capture.specs.RepliesSteps as RepliesSteps
use Rattle.zy_capture.specs.Verdict as Captures
use Rattle.zy_capture.specs.RepliesVerdict as Replies
use Rattle.zy_pcap.specs.Packets.{recorded}
use Rattle.zy_pcap.specs.Standing.{StandsForFile}
use Rattle.zy_journal.specs.declared.journal.Journal.{Journal}
use Rattle.zy_journal_reader.specs.Standing.{StandsForJournal}
use Rattle.zy_journal_reader.specs.Verdict as Journals
use Rattle.zy_input.specs.declared.capture_part.CapturePart.{CapturePart}
use Rattle.zy_items.specs.declared.standing.Standing.{Standing as Kept}
use Rattle.zy_items.specs.Places.{StandsForItems}
use Rattle.zy_items.specs.Standing.{standing_of}
use Rattle.zy_items.specs.Verdict as Items
use Rattle.zy_input.specs.declared.items_part.ItemsPart.{ItemsPart}
use Rattle.zy_input.specs.declared.journal_part.JournalPart.{JournalPart}
use Rattle.zy_input.specs.declared.journal_part.Until.{Until}
use Rattle.zy_input.specs.declared.journal_part.Until.TheVariants.{OwnEnd, SourceEnd}
use Rattle.zy_input.specs.declared.packets_part.PacketsPart.{PacketsPart}
use Rattle.zy_input.specs.declared.replies_part.RepliesPart.{RepliesPart}
use Rattle.zy_input.specs.declared.stop.Refusal.TheVariants.{Capture, Journal as OfJournal, Replies as OfReplies, Items as OfItems, Pcap}
use Rattle.zy_input.specs.declared.notes.Noted.{Noted}
use Rattle.zy_input.specs.Parts.{HasNotes, HasPackets}
use Rattle.zy_input.specs.Reading.{Kind, format_kind, never}
use Rattle.zy_input.specs.Keeping.{Keeper, HasKept}

-- ---- captures

-- what is kept of a capture: its streams, with notes on its records, once its count was read
abbrev pub capture_keeping : {N : Type 0} → (N → ℕ → List Record → Type 0)
    → Keeper CaptureSteps.CaptureProgress Record CaptureFault Captures.Verdict (Noted N)
capture_keeping Holds = record {
  format = Captures.captures;
  number_of = Captures.count_of;
  holds = λ kept count given. (kept.streams ≡ with_records (no_bytes count) given) × Holds kept.notes count given;
}

-- these bytes of a capture were fed, and their records are kept
abbrev pub StandsForCapture : {N : Type 0} → (N → ℕ → List Record → Type 0) → CapturePart N → List ℕ → Type 0
StandsForCapture Holds part bytes = HasKept (capture_keeping Holds) part.reader part.kept bytes

-- the record is of one of the connections, which has room for another session if the record begins one
abbrev pub MayKeep : List (List (List ℕ)) → Record → Type 0
MayKeep streams (Kinds.Segment s) = s.conn < length streams
MayKeep streams (Kinds.Close conn) = (conn < length streams) × (length (sessions_of streams conn) < 2 ^ 31)

-- the kind of captures, with notes on their records
abbrev pub capture_kind : {N : Type 0} → (N → ℕ → List Record → Type 0) → Kind (CapturePart N) (Noted N)
capture_kind Holds =
    format_kind Captures.captures Captures.is_good (λ fault. Capture fault) (StandsForCapture Holds)
    (λ kept text. HasNotes Holds text kept.streams kept.notes)

-- ---- journals

-- the verdict is that the text is whole; a journal that ends with the source is not, before that
abbrev pub is_whole : Until → Journals.JournalVerdict → Bool
is_whole OwnEnd verdict = Journals.is_good_journal verdict
is_whole SourceEnd verdict = never verdict

-- these bytes of a journal were fed
pub record StandsForJournalPart (until : Until) (part : JournalPart) (bytes : List ℕ) : Type 0 where
  pub given : List ⊤
  pub reader : StandsForJournal part.reader given bytes
  pub ends : part.until ≡ until

-- the kind of journals, by where they end
abbrev pub journal_kind : Until → Kind JournalPart Journal
journal_kind until =
    format_kind Journals.journals (is_whole until) (λ fault. OfJournal fault) (StandsForJournalPart until)
    (λ journal text. Journals.journal_verdict text ≡ Journals.JournalVerdict.Good journal)

-- ---- items files

-- these bytes of an items file were fed
pub record StandsForItemsPart (part : ItemsPart) (bytes : List ℕ) : Type 0 where
  pub given : List ⊤
  pub reader : StandsForItems part.reader given bytes

-- the text is an items file that says this
abbrev pub SaysStanding : Kept → List ℕ → Type 0
SaysStanding kept text = Items.items_verdict text ≡ Items.ItemsVerdict.Good (standing_of kept)

-- the kind of items files
abbrev pub items_kind : Kind ItemsPart Kept
items_kind = format_kind Items.items_files Items.is_good_items (λ fault. OfItems fault) StandsForItemsPart SaysStanding

-- ---- replies files, which end with the source

-- what is kept of a replies file: its outputs, once its version was read
abbrev pub replies_keeping : Keeper RepliesSteps.RepliesPlace SessionBytes FileFault Replies.Verdict AllOutputs
replies_keeping = record {
  format = Replies.replies;
  number_of = Replies.version_of;
  holds = λ outputs version given. (items_of outputs ≡ given) × (outputs.version ≡ version) × AreOutputs outputs;
}

-- these bytes of a replies file were fed, and their outputs are kept
abbrev pub StandsForRepliesPart : RepliesPart → List ℕ → Type 0
StandsForRepliesPart part bytes = HasKept replies_keeping part.reader part.outputs bytes

-- the text is a replies file with these outputs
abbrev pub HasOutputs : AllOutputs → List ℕ → Type 0
HasOutputs outputs text =
    (Replies.verdict text ≡ Replies.Verdict.Good outputs.version (items_of outputs)) × AreOutputs outputs

-- the kind of replies files
abbrev pub replies_kind : Kind RepliesPart AllOutputs
replies_kind = format_kind Replies.replies never (λ fault. OfReplies fault) StandsForRepliesPart HasOutputs

-- ---- recorded packets, which end with the source

-- these bytes of recorded packets to a port were fed
abbrev pub StandsForPackets : ℕ → PacketsPart → List ℕ → Type 0
StandsForPackets port part bytes = (part.reader.port ≡ port) × StandsForFile part.reader bytes

-- the kind of recorded packets, for a port
abbrev pub packets_kind : ℕ → Kind PacketsPart (List (List (List ℕ)))
packets_kind port =
    format_kind (recorded port) never (λ fault. Pcap fault) (StandsForPackets port)
    (λ streams text. HasPackets port text streams)
