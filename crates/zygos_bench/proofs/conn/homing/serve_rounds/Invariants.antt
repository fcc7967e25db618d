use Rattle.std.proofs.Common.{◌≡◌, ◌*◌, ◌≤◌, false}
use Rattle.zy_conn.specs.Block.{label_of}
use Rattle.zygos_bench.proofs.conn.homing.serve_rounds.Given as goal

abbrev pub invariant-loop-round : goal.invariant-loop-round
invariant-loop-round g l = record {
  table : l.home.pass.table ≡ l.fn.ring.id;
  label : l.home.pass.label ≡ label_of l.fn.store.id l.home.cores;
  live : l.home.refused ≡ false;
  count : l.home.pass.count ≤ 456 * l.round;
}
