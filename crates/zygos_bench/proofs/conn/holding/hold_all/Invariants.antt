use Rattle.std.proofs.Common.{◌≡◌}
use Rattle.zygos_bench.proofs.conn.holding.hold_all.Given as goal

-- the block is still of this store, for any of 64 cores
abbrev pub invariant-loop-round : goal.invariant-loop-round
invariant-loop-round g l = (l.block.work.table ≡ l.fn.store.id) × (l.block.cores ≡ 64)
