use Rattle.std.proofs.Common.{◌≡◌, ◌+◌, ◌*◌, ◌≤◌, false}
use Rattle.zy_conn.specs.Block.{label_of}
use Rattle.home_tests.proofs.receiving.settle.Given as goal

abbrev pub invariant-loop-round : goal.invariant-loop-round
invariant-loop-round g l = record {
  table : l.setup.home.pass.table ≡ l.setup.ring.id;
  live : l.setup.home.refused ≡ false;
  label : l.setup.home.pass.label ≡ label_of l.setup.store.id 2;
  cores : l.setup.home.cores ≡ 2;
  count : l.setup.home.pass.count ≤ l.fn.setup.home.pass.count + 2 * l._round;
}
