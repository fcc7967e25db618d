use Rattle.std.proofs.Common.{length}
use Rattle.zygos_bench.proofs.conn.shard.make_all.Given as goal

abbrev pub decreases-loop-call : goal.decreases-loop-call
decreases-loop-call l = length l.calls
