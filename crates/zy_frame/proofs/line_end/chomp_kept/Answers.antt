use Rattle.zy_frame.proofs.LineEnds.{chomped-take}
use Rattle.zy_frame.proofs.line_end.chomp_kept.Goals as goal

pub returns : goal.returns
returns c = record { value = simp (c.truncate.ensures.value, c.chomp-len.ensures.value, c.bytes.ensures.value) (chomped-take c.args.line.now) }
