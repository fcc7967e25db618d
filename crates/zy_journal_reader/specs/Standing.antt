-- The bytes that brought a reader of journals to where it is, and the meaning of its answers.
use Rattle.std.specs.Prelude.{◌≡◌, ℕ, Bool, true, false, List, Option, Result, Ok, Err, ⊤}
use Rattle.zy_base.specs.declared.file_fault.FileFault.{FileFault}
use Rattle.zy_read.specs.declared.not_taken.NotTaken.{NotTaken}
use Rattle.zy_read.specs.Standing.{StandsAs}
use Rattle.zy_read.specs.FieldReading.{Judges}
use Rattle.zy_journal.specs.declared.journal.Journal.{Journal}
use Rattle.zy_journal_reader.specs.declared.due.Due.{Due}
use Rattle.zy_journal_reader.specs.declared.due.Due.TheVariants.{Byte, Number, Long, Bytes}
use Rattle.zy_journal_reader.specs.declared.due.ByteField.TheVariants.{ReplyCode}
use Rattle.zy_journal_reader.specs.declared.due.NumberField.TheVariants.{FoundLength, HoldCount}
use Rattle.zy_journal_reader.specs.declared.due.LongField.TheVariants.{ReplyNumber, Items}
use Rattle.zy_journal_reader.specs.Fields.{IsInBounds}
use Rattle.zy_journal_reader.specs.Steps.{ReadState, JournalProgress, Done}
use Rattle.zy_journal_reader.specs.Verdict.{JournalVerdict, journals, journal_verdict}
use Rattle.zy_journal_reader.specs.Verdict.JournalVerdict.{Good, Bad}

-- these bytes were fed, one after another
abbrev pub StandsForJournal : JournalProgress → List ⊤ → List ℕ → Type 0
StandsForJournal p given fed = StandsAs journals p given fed

-- an answer at the end of the bytes is their verdict
abbrev pub EndsJournalAs : Result Journal FileFault → JournalVerdict → Type 0
EndsJournalAs (Ok journal) found = found ≡ Good journal
EndsJournalAs (Err fault) found = found ≡ Bad fault

-- the bytes fed are the encoding of this journal, or have this fault as they end
abbrev pub EndsJournalBy : JournalProgress → Result Journal FileFault → Type 0
EndsJournalBy p answer =
    (given : List ⊤) (b : List ℕ) → StandsForJournal p given b → EndsJournalAs answer (journal_verdict b)

-- the reader may need memory when this is expected: a byte of a key or a value, or one at which an
-- entry or a hold may end
abbrev pub takes_memory : Due → Bool
takes_memory (Bytes field) = true
takes_memory (Byte ReplyCode) = true
takes_memory (Number FoundLength) = true
takes_memory (Number HoldCount) = true
takes_memory (Long ReplyNumber) = true
takes_memory (Long Items) = true
takes_memory due = false

-- the reader may need memory for the byte
abbrev pub MayWant : JournalProgress → ℕ → Type 0
MayWant p byte = takes_memory p.state.due ≡ true

-- ---- for the reader only

-- the state may be that at this place
abbrev pub FitsPlace : ReadState → ℕ → Type 0
FitsPlace s at = IsInBounds s.due at s.draft

-- its field may need memory
abbrev pub Wants : ReadState → Type 0
Wants s = takes_memory s.due ≡ true

-- an answer and a new state are those of a whole field, at whatever place the field is
abbrev pub TakesStep : Done → ReadState → ReadState → Result (Option ⊤) (NotTaken FileFault) → Type 0
TakesStep done old new result = Judges (λ (s : ReadState) after. (at : ℕ) → FitsPlace s at) Wants done 0 old new result
