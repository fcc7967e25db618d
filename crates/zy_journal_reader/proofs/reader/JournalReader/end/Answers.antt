use Rattle.zy_journal_reader.proofs.PlacedLemmas.{ends_bad}
use Rattle.zy_journal_reader.proofs.reader.JournalReader.end.Goals as goal

pub returns-in-Err : goal.returns-in-Err
returns-in-Err c = record { value = rw (← c.self.view_is) (ends_bad c.self.inside.reader c.in-Err.fault c.in-Err.ensures.value) }
