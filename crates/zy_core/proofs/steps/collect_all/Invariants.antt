use Rattle.std.proofs.Common.{◌≡◌, ◌≤◌, false, true}
use Rattle.zy_home.specs.Home.{SameFor, StandsHome, is_settled}
use Rattle.zy_core.specs.Turn.{CollectsCount}
use Rattle.zy_core.proofs.steps.collect_all.Given as goal

abbrev pub invariant-loop : goal.invariant-loop
invariant-loop l = record {
  same : SameFor l.counter l.fn.home l.home;
  ended : l.home.ended ≡ l.fn.home.ended;
  some : 1 ≤ l.counter;
  few : l.counter ≤ l.fn.home.pass.table.slots;
  live : l.home.refused ≡ false;
  still : is_settled l.fn.home ≡ true → is_settled l.home ≡ true;
  stands : StandsHome l.fn.home l.home;
  collected : CollectsCount l.fn.home.pass.table.slots l.counter l.fn.home l.home;
}
