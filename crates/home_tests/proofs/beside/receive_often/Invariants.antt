use Rattle.std.proofs.Common.{◌≡◌, ◌*◌, false}
use Rattle.zy_home.specs.Home.{SameFor}
use Rattle.home_tests.proofs.beside.receive_often.Given as goal

abbrev pub invariant-loop-time : goal.invariant-loop-time
invariant-loop-time g l = record {
  same : SameFor (64 * l._time) l.fn.home l.home;
  live : l.home.refused ≡ false;
}
