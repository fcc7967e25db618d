use Rattle.std.proofs.Common.{◌≡◌}
use Rattle.home_tests.proofs.offered.hold_until.Given as goal

-- the block is still of this store, these cores and this ring
abbrev pub invariant-loop : goal.invariant-loop
invariant-loop g l = record {
  table : l.block.work.table ≡ l.initial.block.work.table;
  cores : l.block.cores ≡ l.initial.block.cores;
  ring : l.block.work.ring ≡ l.initial.block.work.ring;
}
