use Rattle.zy_items.proofs.StateLemmas.{ends_bad}
use Rattle.zy_items.proofs.reader.ItemsReader.end.Goals as goal

pub returns-in-Err : goal.returns-in-Err
returns-in-Err c = record { value = rw (← c.self.view_is) (ends_bad c.self.inside.reader c.in-Err.fault c.in-Err.ensures.value) }
