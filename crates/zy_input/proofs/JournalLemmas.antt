-- A byte after a journal is a fault, and the byte that ends a journal reports its end; what this means if the journal
-- ends with the source.
use Rattle.std.proofs.Common.{◌≡◌, inl, ℕ, ◌-◌, ◌==◌, Bool, true, false, true≢false, List, [], ◌∷◌, ◌++◌, length, get_or, refl, sym, ◌∙◌, ap}
use Rattle.std.specs.Prelude.{if◌then◌else◌, Option, Some, None, Result, Err, ⊤}
use Rattle.std.specs.Int.{from_be_bytes, w32, w64}
use Rattle.mc_calls.specs.declared.call_kind.CallFields.{CallFields}
use Rattle.zy_base.specs.declared.file_fault.FileFault.{FileFault}
use Rattle.zy_base.specs.declared.file_fault.FileFault.TheVariants.{Truncated}
use Rattle.mc_calls.specs.Code.{kind_of, fields_of, hit_code, number_code, tally_code}
use Rattle.zy_read.specs.declared.not_taken.NotTaken.{NotTaken}
use Rattle.zy_read.specs.declared.not_taken.NotTaken.TheVariants.{Fault}
use Rattle.zy_read.specs.Standing.{given_in, Feeds, TellsFault, TellsLasting}
use Rattle.zy_read.specs.Format.{Step, IsLasting}
use Rattle.zy_read.specs.Fields.{moved, judged_at, step, ended_by}
use Rattle.zy_read.specs.Fields.Judged.{Then, Gives, Wrong}
use Rattle.zy_read.specs.FieldsLasting.{lasting}
use Rattle.zy_read.proofs.Feeding.{verdict_here, fault_here}
use Rattle.zy_read.proofs.StepLemmas.{step_does, end_closes}
use Rattle.zy_journal_reader.specs.declared.due.Due.{Due}
use Rattle.zy_journal_reader.specs.declared.due.Due.TheVariants.{Byte, Number, Long, Bytes, Nothing}
use Rattle.zy_journal_reader.specs.declared.due.ByteField.{ByteField}
use Rattle.zy_journal_reader.specs.declared.due.ByteField.TheVariants.{Magic, Tag, CallCode, KeyLength, ReplyCode}
use Rattle.zy_journal_reader.specs.declared.due.NumberField.{NumberField}
use Rattle.zy_journal_reader.specs.declared.due.NumberField.TheVariants.{Flags, ValueLength, FoundLength}
use Rattle.zy_journal_reader.specs.declared.due.LongField.{LongField}
use Rattle.zy_journal_reader.specs.declared.due.LongField.TheVariants.{CallNumber}
use Rattle.zy_journal_reader.specs.declared.due.BytesField.{BytesField}
use Rattle.zy_journal_reader.specs.declared.due.BytesField.TheVariants.{Key, Value, FoundValue}
use Rattle.zy_journal_reader.specs.Fields.{after_call_code, at_flags, at_number, at_value}
use Rattle.zy_journal_reader.specs.Steps.{ReadState, JournalProgress, Done, lawful_byte, after_byte, lawful_number, after_four, lawful_long, after_eight, after_bytes, journal_judged, is_last, journal_fields}
use Rattle.zy_journal_reader.specs.Laws.{none_follows, journal_lawful}
use Rattle.zy_journal_reader.specs.Standing.{StandsForJournal}
use Rattle.zy_journal_reader.specs.Verdict.{journals, journal_in, good_journal, is_good_journal}
use Rattle.zy_journal_reader.specs.Verdict.JournalVerdict.{Good, Bad}
use Rattle.zy_journal_reader.proofs.CallLemmas.{either}
use Rattle.zy_input.specs.declared.journal_part.JournalPart.{JournalPart}
use Rattle.zy_input.specs.declared.journal_part.Until.{Until}
use Rattle.zy_input.specs.declared.journal_part.Until.TheVariants.{OwnEnd, SourceEnd}
use Rattle.zy_input.specs.declared.stop.Refusal.TheVariants.{Journal as OfJournal}
use Rattle.zy_input.specs.Reading.{IsUnfinished, IsFaultyText}
use Rattle.zy_input.specs.Kinds.{StandsForJournalPart, is_whole}
use Rattle.zy_input.proofs.FormatLemmas.{EndsOnce, StaysOpen, answer_fault, once_never, fault_ever}

-- the end was read where a journal is whole
record EndRead (p : JournalProgress) : Type 0 where
  pub none : p.fault ≡ None
  pub ends : is_last p.state.due ≡ true

at_end : (is_end : Bool) (p : JournalProgress) → is_good_journal (if is_end then Good (journal_in p.state) else Bad (Truncated p.at)) ≡ true → is_end ≡ true
at_end true p is = refl
at_end false p is = cc

read_by : (found : Option FileFault) (p : JournalProgress) (given : List ⊤) → p.fault ≡ found → is_good_journal (ended_by found journal_fields good_journal Bad p given) ≡ true → EndRead p
read_by None p given none is = record { none = none; ends = at_end (is_last p.state.due) p is }
read_by (Some fault) p given met is = cc

end_read : (p : JournalProgress) (given : List ⊤) → is_good_journal (journals.ended p given) ≡ true → EndRead p
end_read p given is = read_by p.fault p given refl is

closes : (p : JournalProgress) (given : List ⊤) (byte : ℕ) → is_good_journal (journals.ended p given) ≡ true → (fault : FileFault) × ((step journal_fields p byte).next.fault ≡ Some fault)
closes p given byte is = let read = end_read p given is in end_closes journal_fields journal_lawful p byte read.none read.ends (λ at field. none_follows p.state.due p.state at field read.ends)

-- the first fault of a journal counts
first_counts : IsLasting journals
first_counts = lasting journal_fields good_journal Bad

-- a byte after a journal is a fault
pub once : EndsOnce journals is_good_journal
once = record { lasting = first_counts; closes = closes; bad = λ fault. refl }

-- ---- pieces

-- a due that goes on
abbrev GoesOnAt : Due → Type 0
GoesOnAt due = is_last due ≡ false

-- a field that ends no journal doesn't lead to its end
abbrev EndsNothing : Done → Type 0
EndsNothing (Then next) = GoesOnAt next.due
EndsNothing done = ⊤

value_goes : (fields : CallFields) → GoesOnAt (at_value fields)
value_goes fields = either GoesOnAt fields.value (Number ValueLength) (Byte ReplyCode) refl refl

number_goes : (fields : CallFields) → GoesOnAt (at_number fields)
number_goes fields = either GoesOnAt fields.number (Long CallNumber) (at_value fields) refl (value_goes fields)

flags_go : (fields : CallFields) → GoesOnAt (at_flags fields)
flags_go fields = either GoesOnAt fields.flags (Number Flags) (at_number fields) refl (number_goes fields)

key_goes : (fields : CallFields) → GoesOnAt (after_call_code fields)
key_goes fields = either GoesOnAt fields.key (Byte KeyLength) (at_flags fields) refl (flags_go fields)

byte_ends : (field : ByteField) (s : ReadState) (at byte : ℕ) → EndsNothing (after_byte field s at byte)
byte_ends Magic s at byte = either EndsNothing (at == 7) _ _ refl refl
byte_ends Tag s at byte = either EndsNothing (byte == 69) _ _ tt (either EndsNothing (byte == 72) _ _ refl refl)
byte_ends CallCode s at byte = key_goes (fields_of (kind_of byte))
byte_ends KeyLength s at byte = refl
byte_ends ReplyCode s at byte =
    either EndsNothing (byte == hit_code) _ _ refl (either EndsNothing (byte == number_code) _ _ refl (either EndsNothing (byte == tally_code) _ _ refl refl))

four_ends : (field : NumberField) (s : ReadState) (n : ℕ) → EndsNothing (after_four field s n)
four_ends Flags s n = number_goes (fields_of s.draft.kind)
four_ends ValueLength s n = either EndsNothing (n == 0) _ _ refl refl
four_ends FoundLength s n = either EndsNothing (n == 0) _ _ refl refl
four_ends field s n = refl

eight_ends : (field : LongField) (s : ReadState) (n : ℕ) → EndsNothing (after_eight field s n)
eight_ends CallNumber s n = value_goes (fields_of s.draft.kind)
eight_ends field s n = refl

bytes_end : (field : BytesField) (s : ReadState) (bytes : List ℕ) → EndsNothing (after_bytes field s bytes)
bytes_end Key s bytes = flags_go (fields_of s.draft.kind)
bytes_end Value s bytes = refl
bytes_end FoundValue s bytes = refl

judged_ends : (due : Due) (s : ReadState) (at : ℕ) (field : List ℕ) → EndsNothing (journal_judged due s at field)
judged_ends (Byte code) s at field =
    let byte : ℕ = get_or field 0 0 in
    either EndsNothing (lawful_byte code s at byte) _ _ (byte_ends code s at byte) tt
judged_ends (Number number) s at field =
    let n : ℕ = from_be_bytes w32 field in
    either EndsNothing (lawful_number number s n) _ _ (four_ends number s n) tt
judged_ends (Long number) s at field =
    let n : ℕ = from_be_bytes w64 field in
    either EndsNothing (lawful_long number s n) _ _ (eight_ends number s n) tt
judged_ends (Bytes content) s at field = bytes_end content s field
judged_ends Nothing s at field = tt

-- the end was not read
abbrev pub IsOpen : JournalProgress → Type 0
IsOpen p = GoesOnAt p.state.due

-- a byte that ends no journal leads on
abbrev LeadsOn : Step JournalProgress ⊤ → Type 0
LeadsOn s = s.gave ≡ None → IsOpen s.next

moved_leads : (p : JournalProgress) (done : Done) → IsOpen p → EndsNothing done → LeadsOn (moved p done)
moved_leads p (Then next) here goes none = goes
moved_leads p (Gives next item) here goes none = cc
moved_leads p (Wrong fault) here goes none = here

step_leads : (p : JournalProgress) (byte : ℕ) → IsOpen p → LeadsOn (step journal_fields p byte)
step_leads p byte here =
    step_does journal_fields LeadsOn p byte (λ fault met none. here) (λ none. here) (λ none. here)
    (moved_leads p (judged_at journal_fields p byte) here (judged_ends p.state.due p.state (p.at - length p.seen) (p.seen ++ byte ∷ [])))

-- the byte that leads to a journal's end reports it
pub stays : StaysOpen journals is_good_journal IsOpen
stays = record {
  never = λ p given unread is. true≢false (sym (end_read p given is).ends ∙ unread);
  goes = λ p byte unread none. inl (step_leads p byte unread none);
}

-- while a journal goes on, its end was not read
not_ended : (p : JournalProgress) (given : List ⊤) (is_end : Bool) → p.fault ≡ None → is_last p.state.due ≡ is_end → is_good_journal (journals.ended p given) ≡ false → is_end ≡ false
not_ended p given false none is not_good = refl
not_ended p given true none is not_good =
    let whole : is_good_journal (journals.ended p given) ≡ true = rw (none, is) refl in absurd (true≢false (sym whole ∙ not_good))

pub open_here : (p : JournalProgress) (given : List ⊤) (text : List ℕ) → StandsForJournal p given text → IsUnfinished journals is_good_journal text → IsOpen p
open_here p given text stands goes_on =
    not_ended p given (is_last p.state.due) (sym (fault_here journals p given text stands) ∙ goes_on.0) refl (ap is_good_journal (sym (verdict_here journals p given text stands)) ∙ goes_on.1)

-- ---- where the journal ends

-- a byte after a whole journal is a fault, wherever it ends
pub once_until : (until : Until) → EndsOnce journals (is_whole until)
once_until OwnEnd = once
once_until SourceEnd = once_never journals first_counts

-- a fault in a piece, whatever follows
pub fault_in_piece : (until : Until) (part : JournalPart) (q : JournalProgress) (bytes piece more : List ℕ) (answer : Result (Option ⊤) (NotTaken FileFault)) (fault : FileFault) → answer ≡ Err (Fault fault) → StandsForJournalPart until part bytes → IsUnfinished journals (is_whole until) bytes
    → Feeds journals part.reader q piece (given_in answer) → TellsFault journals part.reader piece answer → TellsLasting journals part.reader piece answer → IsFaultyText journals (is_whole until) (λ (f : FileFault). OfJournal f) ((bytes ++ piece) ++ more) (OfJournal fault)
fault_in_piece OwnEnd part q bytes piece more answer fault is stands goes_on feeds tells lasts =
    answer_fault journals is_good_journal once (λ (f : FileFault). OfJournal f) IsOpen stays part.reader q stands.given bytes piece more answer fault is stands.reader (open_here part.reader stands.given bytes stands.reader goes_on) goes_on feeds tells
fault_in_piece SourceEnd part q bytes piece more answer fault is stands goes_on feeds tells lasts =
    fault_ever journals (λ (f : FileFault). OfJournal f) part.reader stands.given bytes piece more answer fault is stands.reader lasts
