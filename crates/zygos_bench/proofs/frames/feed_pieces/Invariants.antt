use Rattle.std.proofs.Common.{◌≤◌, length}
use Rattle.zygos_bench.proofs.frames.feed_pieces.Given as goal

abbrev pub invariant-loop-left : goal.invariant-loop-left
invariant-loop-left l = l.at ≤ length l.traffic

abbrev pub decreases-loop-left : goal.decreases-loop-left
decreases-loop-left l = l.left
