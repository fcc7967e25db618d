use Rattle.std.proofs.Common.{◌≡◌}
use Rattle.zy_conn.specs.Work.{mark_of}
use Rattle.home_tests.proofs.beside.hold_often.Given as goal

abbrev pub invariant-loop : goal.invariant-loop
invariant-loop g l = record {
  table : l.block.work.table ≡ l.fn.block.work.table;
  cores : l.block.cores ≡ l.fn.block.cores;
  mark : mark_of l.block.work ≡ mark_of l.fn.block.work;
}
