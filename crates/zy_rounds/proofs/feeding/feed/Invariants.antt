use Rattle.std.proofs.Common.{◌≡◌}
use Rattle.zy_rx.specs.Feed.{rings_of}
use Rattle.zy_rounds.proofs.feeding.feed.Given as goal

abbrev pub invariant-loop : goal.invariant-loop
invariant-loop g l =
    (goal.iterator-loop g).can_next l.iterator' × (goal.iterator-loop g).is_finite l.iterator'
    × ((¬ g.F.Feeder.ended l.feeder) × (¬ g.F.Feeder.broken l.feeder))
    × g.F.Feeder.leads l.initial.feeder l.feeder
    × (rings_of (g.F.Feeder.inlets l.feeder) ≡ rings_of (g.F.Feeder.inlets l.initial.feeder))
