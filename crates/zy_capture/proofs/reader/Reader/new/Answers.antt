use Rattle.zy_read.proofs.Feeding.{starts}
use Rattle.zy_capture.specs.Verdict.{captures}
use Rattle.zy_capture.proofs.reader.Reader.new.Goals as goal

pub returns : goal.returns
returns c = record { value = rw c.new.ensures.value (starts captures) }
