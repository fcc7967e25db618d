use Rattle.std.proofs.Common.{◌≡◌}
use Rattle.zygos_bench.proofs.store.making.make_calls.Given as goal

-- the pass is still on this store
abbrev pub invariant-loop : goal.invariant-loop
invariant-loop g l = l.pass.table ≡ l.initial.pass.table
