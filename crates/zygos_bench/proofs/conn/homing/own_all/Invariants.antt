use Rattle.std.proofs.Common.{◌≡◌, false}
use Rattle.zy_home.specs.Home.{SameFor}
use Rattle.zygos_bench.proofs.conn.homing.own_all.Given as goal

abbrev pub invariant-loop-turn : goal.invariant-loop-turn
invariant-loop-turn l = record {
  same : SameFor l._turn l.fn.home l.home;
  live : l.home.refused ≡ false;
}
