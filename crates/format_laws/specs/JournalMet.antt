-- The fault that is met in a journal, and what is read of its bytes.
use Rattle.zy_journal_reader.specs.Verdict.{journals}
use Rattle.std.specs.Prelude.{ℕ, List, Option, ⊤}
use Rattle.zy_base.specs.declared.file_fault.FileFault.{FileFault}
use Rattle.zy_read.specs.Format.{Reading, read_on, fault_met}
use Rattle.zy_read.specs.Fields.{step}
use Rattle.zy_journal_reader.specs.Steps.{JournalProgress, journal_fields}

-- ---- a whole text

-- the fault that was met in a text
abbrev pub journal_fault : List ℕ → Option FileFault
journal_fault text = fault_met journals text

-- ---- for proofs

-- what is read of the rest of a text
abbrev pub journal_read_from : JournalProgress → List ℕ → Reading JournalProgress ⊤
journal_read_from p text = read_on (step journal_fields) p text
