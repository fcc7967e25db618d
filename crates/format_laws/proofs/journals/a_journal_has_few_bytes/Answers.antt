use Rattle.format_laws.proofs.JournalLengthLemmas.{entry_few, hold_is, journal_few}
use Rattle.format_laws.proofs.journals.a_journal_has_few_bytes.Goals as goal

pub returns : goal.returns
returns c = record { entry = entry_few; hold = hold_is; whole = journal_few }
