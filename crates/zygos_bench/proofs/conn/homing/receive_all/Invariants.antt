use Rattle.std.proofs.Common.{◌≡◌, ◌*◌, false}
use Rattle.zy_home.specs.Home.{SameFor}
use Rattle.zygos_bench.proofs.conn.homing.receive_all.Given as goal

abbrev pub invariant-loop-time : goal.invariant-loop-time
invariant-loop-time l = record {
  same : SameFor (64 * l._time) l.fn.home l.home;
  live : l.home.refused ≡ false;
}
