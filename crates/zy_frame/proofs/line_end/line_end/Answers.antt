use Rattle.zy_frame.proofs.LineEnds.{found_line}
use Rattle.zy_frame.proofs.line_end.line_end.Goals as goal

pub returns : goal.returns
returns c = record { value = found_line c.args.bytes.now c.memchr.result c.memchr.ensures }
