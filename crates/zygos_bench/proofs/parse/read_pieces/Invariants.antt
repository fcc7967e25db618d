use Rattle.std.proofs.Common.{length, ◌-◌, ◌≤◌}
use Rattle.zygos_bench.proofs.parse.read_pieces.Given as goal

abbrev pub invariant-loop-at : goal.invariant-loop-at
invariant-loop-at l = l.at ≤ length l.traffic

abbrev pub decreases-loop-at : goal.decreases-loop-at
decreases-loop-at l = length l.traffic - l.at
