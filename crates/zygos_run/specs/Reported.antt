-- What is reported of a journal.
use Rattle.std.specs.Prelude.{◌≡◌, List, ℕ}
use Rattle.zy_journal.specs.declared.journal.Journal.{Journal}
use Rattle.zy_journal_reader.specs.Verdict.{journal_verdict, SpellsJournal}
use Rattle.zy_journal_reader.specs.Verdict.JournalVerdict.{Good}
use Rattle.zy_report.specs.Report.{report_of}

-- the bytes are a journal, and this holds of the report on its entries
pub record IsReported (bytes : List ℕ) (Holds : List ℕ → Type 0) : Type 0 where
  pub journal : Journal
  pub good : journal_verdict bytes ≡ Good journal
  -- the bytes are its encoding
  pub spelled : SpellsJournal bytes journal
  pub table : Holds (report_of journal.entries)
