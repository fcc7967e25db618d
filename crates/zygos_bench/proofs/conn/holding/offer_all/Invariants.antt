use Rattle.std.proofs.Common.{length}
use Rattle.zygos_bench.proofs.conn.holding.offer_all.Given as goal

abbrev pub decreases-loop-frame : goal.decreases-loop-frame
decreases-loop-frame l = length l.frames
