-- What the reader of journals answers, by its state.
use Rattle.std.proofs.Common.{◌≡◌, ℕ, ◌+◌, ◌-◌, ◌<◌, List, refl, sym, ◌∙◌, ap, arith}
use Rattle.std.specs.Prelude.{Option, None, Some, Result, Ok, Err, ⊤}
use Rattle.zy_base.specs.declared.file_fault.FileFault.{FileFault}
use Rattle.zy_read.specs.declared.not_taken.NotTaken.{NotTaken}
use Rattle.zy_read.specs.declared.not_taken.NotTaken.TheVariants.{Fault, NoMemory}
use Rattle.zy_read.specs.Fields.{ended_by}
use Rattle.zy_read.specs.FieldReading.{Judges, EndsWith}
use Rattle.zy_read.specs.declared.shape.Shape.TheVariants.{Run}
use Rattle.zy_read.proofs.Feeding.{verdict_here}
use Rattle.zy_journal_reader.specs.declared.due.Due.{Due}
use Rattle.zy_journal_reader.specs.declared.due.Due.TheVariants.{Byte, Number, Long, Bytes, Nothing}
use Rattle.zy_journal_reader.specs.declared.due.BytesField.{BytesField}
use Rattle.zy_journal_reader.specs.Verdict.{journals, good_journal, journal_verdict}
use Rattle.zy_journal_reader.specs.Verdict.JournalVerdict.{Bad}
use Rattle.zy_journal_reader.specs.Steps.{ReadState, JournalProgress, Done, journal_shape, journal_fields}
use Rattle.zy_journal_reader.specs.Standing.{StandsForJournal, FitsPlace, Wants, TakesStep}

-- a field after which this may be expected anywhere
pub placed : (done : Done) (after : ℕ) (old new : ReadState) (answer : Result (Option ⊤) (NotTaken FileFault)) → TakesStep done old new answer → Judges FitsPlace Wants done after old new answer
placed done after old new (Ok None) takes = (takes.0, takes.1 after)
placed done after old new (Ok (Some item)) takes = (takes.0, takes.1 after)
placed done after old new (Err (Fault fault)) takes = takes
placed done after old new (Err NoMemory) takes = takes

-- a run is a key or a value
pub run_due : (due : Due) (size count : ℕ) → 0 < count → ((others : ℕ) → count ≡ others + 1 → journal_shape due size ≡ Run others) → ((field : BytesField) → due ≡ Bytes field → ⊥) → ⊥
run_due (Byte field) size count some is not_bytes = let run = is (count - 1) (omega (arith, some)) in cc
run_due (Number field) size count some is not_bytes = let run = is (count - 1) (omega (arith, some)) in cc
run_due (Long field) size count some is not_bytes = let run = is (count - 1) (omega (arith, some)) in cc
run_due (Bytes field) size count some is not_bytes = not_bytes field refl
run_due Nothing size count some is not_bytes = let run = is (count - 1) (omega (arith, some)) in cc

-- the fault where a text ends is its verdict
ended_bad : (found : Option FileFault) (p : JournalProgress) (given : List ⊤) (fault : FileFault) → EndsWith journal_fields found p fault → ended_by found journal_fields good_journal Bad p given ≡ Bad fault
ended_bad None p given fault ends = rw (ends.0) (ap (λ (f : FileFault). Bad f) (sym ends.1))
ended_bad (Some found) p given fault ends = ap (λ (f : FileFault). Bad f) ends

pub ends_bad : (p : JournalProgress) (fault : FileFault) → EndsWith journal_fields p.fault p fault → (given : List ⊤) (b : List ℕ) → StandsForJournal p given b → journal_verdict b ≡ Bad fault
ends_bad p fault ends given b stands = verdict_here journals p given b stands ∙ ended_bad p.fault p given fault ends
