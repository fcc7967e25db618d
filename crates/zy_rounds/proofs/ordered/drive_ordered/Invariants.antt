use Rattle.std.proofs.Common.{◌≡◌, true, false}
use Rattle.zy_core.specs.Cores.{identities}
use Rattle.zy_rx.specs.Feed.{rings_of}
use Rattle.zy_rounds.proofs.ordered.drive_ordered.Given as goal

abbrev pub invariant-loop : goal.invariant-loop
invariant-loop g l =
    (goal.iterator-loop g).can_next l.iterator' × (goal.iterator-loop g).is_finite l.iterator'
    × (identities l.items.items ≡ identities l.fn.cores)
    × g.F.Feeder.leads l.fn.feeder l.feeder
    × (l.is_ended ≡ true → g.F.Feeder.ended l.feeder)
    × (l.is_ended ≡ false → (¬ g.F.Feeder.ended l.feeder) × (¬ g.F.Feeder.broken l.feeder))
    × (rings_of (g.F.Feeder.inlets l.feeder) ≡ rings_of (g.F.Feeder.inlets l.fn.feeder))
