use Rattle.zy_read.proofs.Feeding.{starts}
use Rattle.zy_capture.specs.RepliesVerdict.{replies}
use Rattle.zy_capture.proofs.replies_reader.RepliesReader.new.Goals as goal

pub returns : goal.returns
returns c = record { value = rw (c.new-2.ensures.value) (starts replies) }
