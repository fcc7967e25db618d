use Rattle.zy_read.proofs.Feeding.{starts}
use Rattle.zy_items.specs.Verdict.{items_files}
use Rattle.zy_items.proofs.reader.ItemsReader.new.Goals as goal

pub returns : goal.returns
returns c = record { value = rw (c.new-2.ensures.value) (starts items_files) }
