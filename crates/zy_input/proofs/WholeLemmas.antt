-- The three parts of an input, one after the other.
use Rattle.std.proofs.Common.{◌≡◌, ℕ, List, [], ◌++◌, refl, sym, ◌∙◌, ap, subst, true≢false, append_assoc}
use Rattle.std.specs.Prelude.{Option, None, Result, Ok, Err, ⊤}
use Rattle.std.proofs.lemmas.List.{append-nil}
use Rattle.zy_base.specs.declared.file_fault.FileFault.{FileFault}
use Rattle.zy_read.specs.Format.{reading_of, read_on, fault_met, verdict_on}
use Rattle.zy_capture.specs.declared.capture_fault.CaptureFault.{CaptureFault}
use Rattle.zy_capture.specs.declared.record.Record.{Record}
use Rattle.zy_capture.specs.Outputs.{AllOutputs}
use Rattle.zy_capture.specs.Standing.{StandsForRecords}
use Rattle.zy_capture.specs.RepliesStanding.{StandsForReplies}
use Rattle.zy_capture.specs.Verdict as Captures
use Rattle.zy_capture.specs.RepliesVerdict as Texts
use Rattle.zy_journal.specs.declared.journal.Journal.{Journal}
use Rattle.zy_journal_reader.specs.Standing.{StandsForJournal}
use Rattle.zy_journal_reader.specs.Verdict as Journals
use Rattle.zy_input.specs.declared.capture_part.CapturePart.{CapturePart}
use Rattle.zy_input.specs.declared.journal_part.JournalPart.{JournalPart}
use Rattle.zy_input.specs.declared.journal_part.Until.{Until}
use Rattle.zy_input.specs.declared.journal_part.Until.TheVariants.{OwnEnd, SourceEnd}
use Rattle.zy_input.specs.declared.replies_part.RepliesPart.{RepliesPart}
use Rattle.zy_input.specs.declared.notes.Noted.{Noted}
use Rattle.zy_input.specs.declared.notes.NoNotes.{NoNotes}
use Rattle.zy_input.specs.declared.parts.Parts.{Parts}
use Rattle.zy_input.specs.declared.parts.NotedParts.{NotedParts}
use Rattle.zy_input.specs.declared.stop.Refusal.{Refusal}
use Rattle.zy_input.specs.declared.stop.Refusal.TheVariants.{Capture, Journal as OfJournal, Replies as OfReplies}
use Rattle.zy_read.specs.declared.stop.Stop.{Stop}
use Rattle.zy_read.specs.declared.stop.Stop.TheVariants.{Refused, ReadFault, NoMemory}
use Rattle.zy_input.specs.Parts.{IsCaptureText, IsJournalText, HasStreams, HasPartFault, HasCaptureFault, HasNotes, HasReadParts, HasReadNotedParts, HasReadStreams}
use Rattle.zy_read.specs.Piece.{HasGiven}
use Rattle.zy_read.proofs.SourceLemmas.{told_first}
use Rattle.zy_input.specs.Reading.{Kind, IsUnfinished, never, IsReading, HasFaultBehind, HasReadPart, StopsPartBy, Reads}
use Rattle.zy_input.specs.Kinds.{capture_keeping, capture_kind, StandsForCapture, is_whole, journal_kind, StandsForJournalPart, replies_keeping, replies_kind, StandsForRepliesPart, HasOutputs}
use Rattle.zy_input.proofs.FormatLemmas.{one_first, ends_faulty}
use Rattle.zy_input.proofs.KeepingLemmas.{kept_none}
use Rattle.zy_input.proofs.PartLemmas.{given_none, begun, if_some, read_all}
use Rattle.zy_input.proofs.CaptureLemmas.{once}

-- ---- where a part begins

-- before the first byte there is no count
no_count : Captures.count_of [] ≡ None
unfolding Captures.count_of reading_of read_on
no_count = refl

-- no byte of the capture was fed
pub capture_stands : {N : Type 0} (Holds : N → ℕ → List Record → Type 0) (part : CapturePart N) → StandsForRecords part.reader [] [] → part.kept ≡ None → StandsForCapture Holds part []
capture_stands Holds part reader none = kept_none (capture_keeping Holds) part.reader part.kept reader none no_count

pub no_capture : IsUnfinished Captures.captures Captures.is_good []
unfolding fault_met verdict_on reading_of read_on
no_capture = (refl, refl)

-- before the first byte of the capture
pub capture_begun : {N S : Type 0} (Holds : N → ℕ → List Record → Type 0) (rest : S → Option (List ℕ)) (faults : S → ℕ) (first : S) (left : List ℕ) (part : CapturePart N) → left ≡ [] → StandsForRecords part.reader [] [] → part.kept ≡ None → IsReading (capture_kind Holds) rest faults first first left [] [] part
capture_begun Holds rest faults first left part empty reader none = begun (capture_kind Holds) rest faults first first left [] part (given_none rest faults first left empty) (capture_stands Holds part reader none) no_capture

-- no byte of the journal was fed
pub journal_stands : (part : JournalPart) (until : Until) → StandsForJournal part.reader [] [] → part.until ≡ until → StandsForJournalPart until part []
journal_stands part until reader is = record { given = []; reader = reader; ends = is }

pub no_journal : (until : Until) → IsUnfinished Journals.journals (is_whole until) []
unfolding fault_met verdict_on reading_of read_on
no_journal OwnEnd = (refl, refl)
no_journal SourceEnd = (refl, refl)

-- before the first byte of the journal
pub journal_begun : {S : Type 0} (rest : S → Option (List ℕ)) (faults : S → ℕ) (first now : S) (left bytes : List ℕ) (part : JournalPart) (until : Until) → HasGiven rest faults first now left bytes → StandsForJournal part.reader [] [] → part.until ≡ until → IsReading (journal_kind until) rest faults first now left bytes [] part
journal_begun rest faults first now left bytes part until given reader is = begun (journal_kind until) rest faults first now left bytes part given (journal_stands part until reader is) (no_journal until)

-- before the first byte there is no version
no_version : Texts.version_of [] ≡ None
unfolding Texts.version_of reading_of read_on
no_version = refl

no_replies : IsUnfinished Texts.replies never []
unfolding fault_met verdict_on reading_of read_on
no_replies = (refl, refl)

-- before the first byte of the replies file
pub replies_begun : {S : Type 0} (rest : S → Option (List ℕ)) (faults : S → ℕ) (first now : S) (left bytes : List ℕ) (part : RepliesPart) → HasGiven rest faults first now left bytes → StandsForReplies part.reader [] [] → part.outputs ≡ None → IsReading replies_kind rest faults first now left bytes [] part
replies_begun rest faults first now left bytes part given reader none =
    begun replies_kind rest faults first now left bytes part given (kept_none replies_keeping part.reader part.outputs reader none no_version) no_replies

-- ---- stops

-- the text is a capture
pub is_capture : (text : List ℕ) (streams : List (List (List ℕ))) → HasStreams text streams → IsCaptureText text
is_capture text streams has = ap Captures.is_good has.good

pub is_journal : (text : List ℕ) (journal : Journal) → Journals.journal_verdict text ≡ Journals.JournalVerdict.Good journal → IsJournalText text
is_journal text journal good = ap Journals.is_good_journal good

-- the fault of a text that begins with no capture
pub begins_faulty : {N : Type 0} (Holds : N → ℕ → List Record → Type 0) (text : List ℕ) (refusal : Refusal) → HasFaultBehind (capture_kind Holds) [] text refusal → (fault : CaptureFault) × (refusal ≡ Capture fault) × HasCaptureFault text fault
begins_faulty {N} Holds text refusal behind =
    let met = ends_faulty Captures.captures Captures.is_good (λ (f : CaptureFault). Capture f) (StandsForCapture Holds) (λ (kept : Noted N) (t : List ℕ). HasNotes Holds t kept.streams kept.notes) [] text refusal behind in
    (met.0, met.1, subst (λ (l : List ℕ). HasCaptureFault l met.0) (sym met.2.whole) (record { none = met.2.none; bad = met.2.bad }))

-- a fault of the capture
pub capture_fault : {N : Type 0} (Holds : N → ℕ → List Record → Type 0) (text : List ℕ) (refusal : Refusal) → HasFaultBehind (capture_kind Holds) [] text refusal → HasPartFault text refusal
capture_fault Holds text refusal behind =
    let met = begins_faulty Holds text refusal behind in
    subst (λ (r : Refusal). HasPartFault text r) (sym met.1) met.2

-- a fault of the journal
pub journal_fault : (bytes text : List ℕ) (refusal : Refusal) → IsCaptureText bytes → HasFaultBehind (journal_kind OwnEnd) bytes text refusal → HasPartFault text refusal
journal_fault bytes text refusal good behind =
    let met = ends_faulty Journals.journals Journals.is_good_journal (λ (f : FileFault). OfJournal f) (StandsForJournalPart OwnEnd) (λ (journal : Journal) (t : List ℕ). Journals.journal_verdict t ≡ Journals.JournalVerdict.Good journal) bytes text refusal behind in
    subst (λ (r : Refusal). HasPartFault text r) (sym met.1) (record {
      capture_text = bytes;
      rest = met.2.text;
      whole = met.2.whole;
      of_capture = good;
      none = met.2.none;
      bad = met.2.bad;
    })

-- a fault of the replies file
pub replies_fault : (bytes more text : List ℕ) (refusal : Refusal) → IsCaptureText bytes → IsJournalText more → HasFaultBehind replies_kind (bytes ++ more) text refusal → HasPartFault text refusal
replies_fault bytes more text refusal good journal behind =
    let met = ends_faulty Texts.replies never (λ (f : FileFault). OfReplies f) StandsForRepliesPart HasOutputs (bytes ++ more) text refusal behind in
    subst (λ (r : Refusal). HasPartFault text r) (sym met.1) (record {
      capture_text = bytes;
      journal_text = more;
      rest = met.2.text;
      whole = met.2.whole ∙ append_assoc bytes more met.2.text;
      of_capture = good;
      of_journal = journal;
      bad = met.2.bad;
    })

-- reading stops for a fault of the part that is read
pub stopped : {P T N S : Type 0} (Holds : N → ℕ → List Record → Type 0) (kind : Kind P T) (rest : S → Option (List ℕ)) (faults : S → ℕ) (first now : S) (before : List ℕ) (stop : Stop Refusal) → ((text : List ℕ) (refusal : Refusal) → HasFaultBehind kind before text refusal → HasPartFault text refusal) → StopsPartBy kind rest faults first now before stop → HasReadNotedParts Holds rest faults first now (Err stop)
stopped Holds kind rest faults first now before (Refused refusal) fault stops = (
  (before ++ stops.0.0, fault (before ++ stops.0.0) refusal (record { rest = stops.0.0; whole = refl; faulty = stops.0.1 })),
  if_some (rest first) (λ text. HasFaultBehind kind before text refusal) (λ text. HasPartFault text refusal) (λ text. fault text refusal) stops.1,
)
stopped Holds kind rest faults first now before ReadFault fault stops = stops
stopped Holds kind rest faults first now before NoMemory fault stops = tt

-- ---- all parts

pub all_parts : {N S : Type 0} (Holds : N → ℕ → List Record → Type 0) (rest : S → Option (List ℕ)) (faults : S → ℕ) (first now : S) (left bytes more : List ℕ) (parts : NotedParts N) → HasNotes Holds bytes parts.capture.streams parts.capture.notes → Journals.journal_verdict more ≡ Journals.JournalVerdict.Good parts.journal → HasReadPart replies_kind rest faults first now left (bytes ++ more) parts.outputs → HasReadNotedParts Holds rest faults first now (Ok parts)
all_parts Holds rest faults first now left bytes more parts noted journal has = (
  (bytes ++ more) ++ has.bytes,
  read_all replies_kind rest faults first now left (bytes ++ more) parts.outputs (λ text whole. true≢false (sym whole)) has,
  record {
    parts = record {
      capture_text = bytes;
      journal_text = more;
      replies_text = has.bytes;
      whole = append_assoc bytes more has.bytes;
      of_capture = noted.capture;
      of_journal = journal;
      of_replies = has.gives.0;
    };
    noted = noted.noted;
  },
  has.gives.1,
)

-- ---- without notes

-- no notes are so of any records
abbrev pub no_notes : NoNotes → ℕ → List Record → Type 0
no_notes notes count records = ⊤

-- the parts without the notes
pub plain_parts : {N S : Type 0} (Holds : N → ℕ → List Record → Type 0) (rest : S → Option (List ℕ)) (faults : S → ℕ) (first now : S) (noted : NotedParts N) (parts : Parts) → parts.streams ≡ noted.capture.streams → parts.journal ≡ noted.journal → parts.outputs ≡ noted.outputs
    → HasReadNotedParts Holds rest faults first now (Ok noted) → HasReadParts rest faults first now (Ok parts)
plain_parts Holds rest faults first now noted parts streams journal outputs has =
    let here : HasReadParts rest faults first now (Ok (record { streams = noted.capture.streams; journal = noted.journal; outputs = noted.outputs })) = (has.0, has.1, has.2.parts, has.3) in
    subst (λ (l : List (List (List ℕ))). HasReadParts rest faults first now (Ok (record { streams = l; journal = parts.journal; outputs = parts.outputs }))) (sym streams)
    (subst (λ (j : Journal). HasReadParts rest faults first now (Ok (record { streams = noted.capture.streams; journal = j; outputs = parts.outputs }))) (sym journal)
    (subst (λ (o : AllOutputs). HasReadParts rest faults first now (Ok (record { streams = noted.capture.streams; journal = noted.journal; outputs = o }))) (sym outputs) here))

-- the same stop
pub plain_stop : {N S : Type 0} (Holds : N → ℕ → List Record → Type 0) (rest : S → Option (List ℕ)) (faults : S → ℕ) (first now : S) (stop : Stop Refusal) → HasReadNotedParts Holds rest faults first now (Err stop) → HasReadParts rest faults first now (Err stop)
plain_stop Holds rest faults first now (Refused refusal) stops = stops
plain_stop Holds rest faults first now ReadFault stops = stops
plain_stop Holds rest faults first now NoMemory stops = tt

-- ---- the capture alone

-- a capture that all is, is the one that was read
only_capture : (text behind told : List ℕ) → IsCaptureText text → told ≡ text ++ behind → IsCaptureText told → told ≡ text
only_capture text behind told good is whole = one_first Captures.captures Captures.is_good once told [] text behind (append-nil told ∙ is) whole good

same_capture_fault : (text : List ℕ) (refusal : Refusal) (fault : CaptureFault) → refusal ≡ Capture fault → (f : CaptureFault) × (refusal ≡ Capture f) × HasCaptureFault text f → HasCaptureFault text fault
same_capture_fault text refusal fault is met =
    let here : Capture met.0 ≡ Capture fault = sym met.1 ∙ is in
    let same : met.0 ≡ fault = cc in
    subst (λ (f : CaptureFault). HasCaptureFault text f) same met.2

-- what is read of the streams alone
abbrev pub streams_answer : {N : Type 0} → Result (Noted N) (Stop Refusal) → Result (List (List (List ℕ))) (Stop Refusal)
streams_answer (Ok kept) = Ok kept.streams
streams_answer (Err stop) = Err stop

pub streams_read : {N S : Type 0} (Holds : N → ℕ → List Record → Type 0) (rest : S → Option (List ℕ)) (faults : S → ℕ) (first now : S) (left : List ℕ) (answer : Result (Noted N) (Stop Refusal)) → Reads (capture_kind Holds) rest faults first now left [] answer → HasReadStreams rest faults first now (streams_answer answer)
streams_read Holds rest faults first now left (Ok kept) has =
    let good : IsCaptureText has.bytes = is_capture has.bytes kept.streams has.gives.capture in
    record {
      text = has.bytes;
      behind = left;
      given = has.given.source;
      are = has.gives.capture;
      all = told_first (rest first) (rest now) (has.bytes ++ left) (λ (told : List ℕ). IsCaptureText told → told ≡ has.bytes) has.given.source
          (λ more whole. only_capture has.bytes (left ++ more) ((has.bytes ++ left) ++ more) good (append_assoc has.bytes left more) whole);
    }
streams_read Holds rest faults first now left (Err (Refused refusal)) stops =
    let met = begins_faulty Holds stops.0.0 refusal (record { rest = stops.0.0; whole = refl; faulty = stops.0.1 }) in
    subst (λ (r : Refusal). HasReadStreams rest faults first now (Err (Refused r))) (sym met.1)
    (if_some (rest first) (λ text. HasFaultBehind (capture_kind Holds) [] text refusal) (λ text. HasCaptureFault text met.0)
    (λ text behind. same_capture_fault text refusal met.0 met.1 (begins_faulty Holds text refusal behind)) stops.1)
streams_read Holds rest faults first now left (Err ReadFault) stops = stops
streams_read Holds rest faults first now left (Err NoMemory) stops = tt
