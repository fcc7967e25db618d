use Rattle.std.proofs.Common.{◌≡◌, true, false, vec_len}
use Rattle.zy_drive.specs.Seat.{all_of_seats}
use Rattle.zy_rx.specs.Feed.{rings_of}
use Rattle.zy_drive.proofs.tending.tend.Given as goal

abbrev pub invariant-loop : goal.invariant-loop
invariant-loop g l =
    (goal.iterator-loop g).can_next l.iterator' × (goal.iterator-loop g).is_finite l.iterator'
    × (all_of_seats l.seats.items ≡ all_of_seats l.initial.seats.items)
    × (vec_len l.seats ≡ vec_len l.initial.seats)
    × (l.caller.watch.table ≡ l.initial.caller.watch.table)
    × (l.caller.root.now.bells ≡ l.initial.caller.root.now.bells)
    × g.F.Feeder.leads l.initial.feeder l.feeder
    × (l.is_ended ≡ true → g.F.Feeder.ended l.feeder)
    × (l.is_ended ≡ false → (¬ g.F.Feeder.ended l.feeder) × (¬ g.F.Feeder.broken l.feeder))
    × (rings_of (g.F.Feeder.inlets l.feeder) ≡ rings_of (g.F.Feeder.inlets l.initial.feeder))
