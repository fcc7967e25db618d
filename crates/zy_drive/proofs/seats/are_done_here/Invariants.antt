use Rattle.std.proofs.Common.{◌≡◌, drop}
use Rattle.zy_drive.specs.Seat.{are_done_here}
use Rattle.zy_drive.proofs.seats.are_done_here.Given as goal

abbrev pub invariant-loop-seat : goal.invariant-loop-seat
invariant-loop-seat l = are_done_here (drop l.seat-index l.seats) ≡ are_done_here l.seats
