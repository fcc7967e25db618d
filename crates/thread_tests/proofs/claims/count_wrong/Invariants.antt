use Rattle.std.proofs.Common.{◌≡◌}
use Rattle.thread_tests.proofs.claims.count_wrong.Given as goal

abbrev pub invariant-loop-next : goal.invariant-loop-next
invariant-loop-next l = l.home.table ≡ l.fn.home.table
