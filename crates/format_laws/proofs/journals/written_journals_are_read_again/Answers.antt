use Rattle.std.proofs.Common.{refl}
use Rattle.zy_journal.specs.Journal.{journal_bytes}
use Rattle.zy_journal_reader.proofs.SpelledLemmas.{spells_good}
use Rattle.format_laws.proofs.journals.written_journals_are_read_again.Goals as goal

pub returns : goal.returns
returns c = record { again = λ journal readable short. spells_good (journal_bytes journal) journal (record { readable = readable; spelled = refl; short = short }) }
