use Rattle.std.proofs.Common.{◌≡◌, drop}
use Rattle.zy_drive.specs.Seat.{are_some_here}
use Rattle.zy_drive.proofs.seats.are_some_here.Given as goal

abbrev pub invariant-loop-seat : goal.invariant-loop-seat
invariant-loop-seat l = are_some_here (drop l.seat-index l.seats) ≡ are_some_here l.seats
