use Rattle.std.proofs.Common.{◌≡◌, drop}
use Rattle.zy_drive.specs.Seat.{are_some_away}
use Rattle.zy_drive.proofs.seats.are_some_away.Given as goal

abbrev pub invariant-loop-seat : goal.invariant-loop-seat
invariant-loop-seat l = are_some_away (drop l.seat-index l.seats) ≡ are_some_away l.seats
