use Rattle.std.proofs.Common.{◌≡◌}
use Rattle.thread_tests.proofs.calls.make_calls.Given as goal

-- the pass is still that of the connection, on this store
abbrev pub invariant-loop : goal.invariant-loop
invariant-loop g l = record {
  table : l.pass.table ≡ l.fn.pass.table;
  conn : l.pass.conn ≡ l.fn.pass.conn;
}
