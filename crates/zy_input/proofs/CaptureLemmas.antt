-- What is kept of a capture while it is read.
use Rattle.std.proofs.Common.{◌≡◌, ◌⊎◌, inl, inr, ℕ, ◌<◌, ◌-◌, ◌==◌, true, false, List, [], ◌∷◌, ◌++◌, length, refl, sym, ◌∙◌, ap, arith}
use Rattle.std.specs.Prelude.{nat_lt, Option, None, Some, Result, Ok, Err, OnOk, ⊤}
use Rattle.zy_read.specs.declared.not_taken.NotTaken.{NotTaken}
use Rattle.zy_read.specs.declared.not_taken.NotTaken.TheVariants.{Fault}
use Rattle.zy_read.specs.Standing.{given_in, Feeds, TellsFault}
use Rattle.zy_read.specs.Fields.{moved, judged_at, step}
use Rattle.zy_read.specs.Fields.Judged.{Then, Gives, Wrong}
use Rattle.zy_read.specs.FieldsLasting.{lasting}
use Rattle.zy_read.proofs.Feeding.{verdict_here}
use Rattle.zy_read.proofs.StepLemmas.{step_does, end_closes}
use Rattle.zy_base.specs.declared.outside.NoMemory as Outside
use Rattle.zy_capture.specs.declared.record.Record.{Record}
use Rattle.zy_capture.specs.declared.record.Record.TheVariants as Kinds
use Rattle.zy_capture.specs.declared.capture_fault.CaptureFault.{CaptureFault}
use Rattle.zy_capture.specs.declared.capture_fault.CaptureFault.TheVariants.{TooLong}
use Rattle.zy_capture.specs.declared.due.Due.{Due}
use Rattle.zy_capture.specs.declared.due.Due.TheVariants.{Connection, Length, Payload, Closed, Nothing}
use Rattle.zy_capture.specs.declared.capture_state.CaptureState.{CaptureState}
use Rattle.zy_capture.specs.Streams.{no_bytes, with_record}
use Rattle.zy_capture.specs.Capture.{segment_limit}
use Rattle.zy_capture.specs.Steps.{CaptureProgress, CaptureStep, Judgement, number, judged, is_nothing, fields}
use Rattle.zy_capture.specs.Standing.{StandsForRecords, EndsAs}
use Rattle.zy_capture.specs.Verdict.{captures, good as at_end, is_good, verdict, count_of, is_record_open, is_within_by, is_within_record}
use Rattle.zy_capture.specs.Verdict.Verdict.{Good, Bad}
use Rattle.zy_capture.proofs.ByteLemmas.{chosen}
use Rattle.zy_capture.proofs.Feeding.{count_here, within_here, good_ended, good_count}
use Rattle.zy_capture.proofs.WholeLemmas.{end_wrong, lawful}
use Rattle.zy_capture.proofs.AddLemmas.{records_on, streams_size}
use Rattle.zy_input.specs.declared.capture_part.CapturePart.{CapturePart}
use Rattle.zy_input.specs.declared.stop.Refusal.TheVariants.{Capture}
use Rattle.zy_input.specs.declared.notes.Noted.{Noted}
use Rattle.zy_input.specs.Parts.{HasNotes, conn_of}
use Rattle.zy_input.specs.Reading.{IsUnfinished, IsFaultyText}
use Rattle.zy_input.specs.Keeping.{KeepsRecords}
use Rattle.zy_input.specs.Kinds.{MayKeep, StandsForCapture, capture_keeping}
use Rattle.zy_input.proofs.FormatLemmas.{EndsOnce, StaysOpen, answer_fault}
use Rattle.zy_input.proofs.KeepingLemmas.{not_none, kept_here}

-- ---- the format

closes : (p : CaptureProgress) (given : List Record) (byte : ℕ) → is_good (captures.ended p given) ≡ true → (fault : CaptureFault) × ((step fields p byte).next.fault ≡ Some fault)
closes p given byte good =
    let ended = good_ended p given good in
    let is : is_nothing p.state.due ≡ true = rw ended.due refl in
    end_closes fields lawful p byte ended.none is (λ at field. end_wrong p.state.due p.state at field is)

-- a byte after a capture is a fault
pub once : EndsOnce captures is_good
once = record { lasting = lasting fields at_end Bad; closes = closes; bad = λ fault. refl }

-- ---- pieces

-- a record was begun, and has not ended
abbrev pub IsWithin : CaptureProgress → Type 0
IsWithin p = is_within_by p.fault p.state.due ≡ true

-- a byte that doesn't end a record leads on within it, or to a fault
abbrev LeadsOn : CaptureStep → Type 0
LeadsOn s = s.gave ≡ None → IsWithin s.next ⊎ ((fault : CaptureFault) × (s.next.fault ≡ Some fault))

-- so does a field that is not wrong
abbrev StaysWithin : Judgement → Type 0
StaysWithin (Then next) = is_record_open next.due ≡ true
StaysWithin judged = ⊤

judged_stays : (due : Due) (s : CaptureState) (at : ℕ) (field : List ℕ) → is_record_open due ≡ true → StaysWithin (judged due s at field)
judged_stays Connection s at field within = chosen StaysWithin (nat_lt (number field) s.count) _ _ (λ below. refl) (λ over. tt)
judged_stays (Length conn) s at field within =
    chosen StaysWithin (nat_lt segment_limit (number field)) _ _ (λ over. tt) (λ few. chosen StaysWithin (number field == 0) _ _ (λ empty. tt) (λ some. refl))
judged_stays (Payload conn others) s at field within = tt
judged_stays Closed s at field within = chosen StaysWithin (nat_lt (number field) s.count) _ _ (λ below. tt) (λ over. tt)
judged_stays due s at field within = cc

moved_leads : (p : CaptureProgress) (judged : Judgement) → StaysWithin judged → LeadsOn (moved p judged)
moved_leads p (Then next) within none = inl within
moved_leads p (Gives next item) within none = cc
moved_leads p (Wrong fault) within none = inr (fault, refl)

-- no fault was met within a record
clean_within : (fault : Option CaptureFault) (due : Due) → is_within_by fault due ≡ true → (fault ≡ None) × (is_record_open due ≡ true)
clean_within None due within = (refl, within)
clean_within (Some fault) due within = cc

step_leads : (p : CaptureProgress) (byte : ℕ) → IsWithin p → LeadsOn (step fields p byte)
step_leads p byte within =
    step_does fields LeadsOn p byte (λ fault met none. inr (fault, met)) (λ none. inr (TooLong, refl)) (λ none. inl within)
    (moved_leads p (judged_at fields p byte) (judged_stays p.state.due p.state (p.at - length p.seen) (p.seen ++ byte ∷ []) (clean_within p.fault p.state.due within).1))

within_not_read : (p : CaptureProgress) (given : List Record) → IsWithin p → is_good (captures.ended p given) ≡ true → ⊥
within_not_read p given within good =
    let due : p.state.due ≡ Nothing = (good_ended p given good).due in
    let inside : is_record_open p.state.due ≡ true = (clean_within p.fault p.state.due within).1 in
    let outside : is_record_open p.state.due ≡ false = rw due refl in
    cc

pub stays : StaysOpen captures is_good IsWithin
stays = record {
  never = within_not_read;
  goes = λ p byte within none. step_leads p byte within none;
}

-- a fault within a record, whatever follows
pub fault_within : {N : Type 0} (Holds : N → ℕ → List Record → Type 0) (part : CapturePart N) (q : CaptureProgress) (bytes piece more : List ℕ) (answer : Result (Option Record) (NotTaken CaptureFault)) (fault : CaptureFault) → answer ≡ Err (Fault fault) → StandsForCapture Holds part bytes → IsUnfinished captures is_good bytes → is_within_record bytes ≡ true
    → Feeds captures part.reader q piece (given_in answer) → TellsFault captures part.reader piece answer → IsFaultyText captures is_good (λ (f : CaptureFault). Capture f) ((bytes ++ piece) ++ more) (Capture fault)
fault_within Holds part q bytes piece more answer fault is stands goes_on within feeds tells =
    let here : IsWithin part.reader = sym (within_here part.reader stands.given bytes stands.reader) ∙ within in
    answer_fault captures is_good once (λ (f : CaptureFault). Capture f) IsWithin stays part.reader q stands.given bytes piece more answer fault is stands.reader here goes_on feeds tells

-- ---- what is kept

-- a record that is kept is of one of the connections
pub conn_below : (streams : List (List (List ℕ))) (item : Record) (count : ℕ) → MayKeep streams item → length streams ≡ count → conn_of item < count
conn_below streams (Kinds.Segment s) count may size = omega (arith, may, size)
conn_below streams (Kinds.Close conn) count may size = let low = may.0 in omega (arith, low, size)

-- one further record
pub record_kept : {N : Type 0} (Holds : N → ℕ → List Record → Type 0) (old new : Noted N) (count : Option ℕ) (item : Record) (given : List Record) (answer : Result ⊤ Outside.NoMemory) → MayKeep old.streams item → OnOk answer (new.streams ≡ with_record old.streams item)
    → OnOk answer ((c : ℕ) (g : List Record) → Holds old.notes c g → conn_of item < c → Holds new.notes c (g ++ item ∷ [])) → KeepsRecords (capture_keeping Holds) (Some old) count given → OnOk answer (KeepsRecords (capture_keeping Holds) (Some new) count (given ++ item ∷ []))
record_kept Holds old new (Some count) item given (Ok done) may added noted kept = (
  added ∙ ap (λ (l : List (List (List ℕ))). with_record l item) kept.0 ∙ sym (records_on (no_bytes count) given item),
  noted count given kept.1 (conn_below old.streams item count may (ap (λ (l : List (List (List ℕ))). length l) kept.0 ∙ streams_size count given)),
)
record_kept Holds old new None item given (Ok done) may added noted kept = absurd kept
record_kept Holds old new count item given (Err e) may added noted kept = tt

-- ---- the end

-- the count of a whole capture was read
whole_count : {N : Type 0} (Holds : N → ℕ → List Record → Type 0) (part : CapturePart N) (bytes : List ℕ) (stands : StandsForCapture Holds part bytes) → ((given : List Record) (b : List ℕ) → StandsForRecords part.reader given b → EndsAs given (Ok tt) (verdict b))
    → (version : ℕ) × (count : ℕ) × (verdict bytes ≡ Good version count stands.given) × (count_of bytes ≡ Some count)
whole_count Holds part bytes stands ends =
    let good = ends stands.given bytes stands.reader in (
      good.0,
      good.1,
      good.2,
      count_here part.reader stands.given bytes stands.reader ∙ good_count part.reader stands.given stands.given good.0 good.1 (sym (verdict_here captures part.reader stands.given bytes stands.reader) ∙ good.2),
    )

-- the streams are those of the capture, and the notes are on its records
pub streams_of : {N : Type 0} (Holds : N → ℕ → List Record → Type 0) (part : CapturePart N) (made : Noted N) (bytes : List ℕ) → StandsForCapture Holds part bytes → part.kept ≡ Some made → ((given : List Record) (b : List ℕ) → StandsForRecords part.reader given b → EndsAs given (Ok tt) (verdict b)) → HasNotes Holds bytes made.streams made.notes
streams_of Holds part made bytes stands is ends =
    let whole = whole_count Holds part bytes stands ends in
    let kept = kept_here (capture_keeping Holds) part.kept made bytes stands.given whole.1 is whole.3 stands.kept in
    record {
      capture = record { version = whole.0; count = whole.1; records = stands.given; good = whole.2; joined = kept.0 };
      noted = kept.1;
    }

-- a whole capture has streams
pub streams_there : {N : Type 0} (Holds : N → ℕ → List Record → Type 0) (part : CapturePart N) (bytes : List ℕ) → StandsForCapture Holds part bytes → part.kept ≡ None → ((given : List Record) (b : List ℕ) → StandsForRecords part.reader given b → EndsAs given (Ok tt) (verdict b)) → ⊥
streams_there Holds part bytes stands is ends =
    let whole = whole_count Holds part bytes stands ends in
    not_none (capture_keeping Holds) part.kept bytes stands.given whole.1 is whole.3 stands.kept
