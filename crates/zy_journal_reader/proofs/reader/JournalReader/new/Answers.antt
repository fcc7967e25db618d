use Rattle.zy_read.proofs.Feeding.{starts}
use Rattle.zy_journal_reader.specs.Verdict.{journals}
use Rattle.zy_journal_reader.proofs.reader.JournalReader.new.Goals as goal

pub returns : goal.returns
returns c = record { value = rw (c.new-2.ensures.value) (starts journals) }
