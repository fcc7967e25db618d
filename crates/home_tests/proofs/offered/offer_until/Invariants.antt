use Rattle.std.proofs.Common.{◌≡◌}
use Rattle.home_tests.proofs.offered.offer_until.Given as goal

-- the pass is still on this store, and the inlet of its ring
abbrev pub invariant-loop : goal.invariant-loop
invariant-loop g l = record {
  table : l.pass.table ≡ l.initial.pass.table;
  ring : l.inlet.ring ≡ l.initial.inlet.ring;
}
