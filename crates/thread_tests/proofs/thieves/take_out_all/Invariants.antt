use Rattle.std.proofs.Common.{◌≡◌}
use Rattle.thread_tests.proofs.thieves.take_out_all.Given as goal

abbrev pub invariant-loop : goal.invariant-loop
invariant-loop l = l.home.table ≡ l.fn.home.table
