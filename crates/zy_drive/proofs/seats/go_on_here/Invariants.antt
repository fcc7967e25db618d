use Rattle.std.proofs.Common.{◌≡◌, vec_len}
use Rattle.zy_drive.specs.declared.seat.Seat.{Seat}
use Rattle.zy_drive.specs.Seat.{all_of_seats, turns_here, turns_due}
use Rattle.zy_rounds.proofs.CoreLemmas.{SameFrom, RelatedBelow}
use Rattle.zy_drive.proofs.seats.go_on_here.Given as goal

abbrev pub invariant-loop-i : goal.invariant-loop-i
invariant-loop-i g l = record {
  len : vec_len l.seats ≡ vec_len l.fn.seats;
  turned : RelatedBelow (λ (s t : Seat). turns_here t ≡ turns_due s) l.i l.fn.seats.items l.seats.items;
  rest : SameFrom l.i l.fn.seats.items l.seats.items;
  same : all_of_seats l.seats.items ≡ all_of_seats l.fn.seats.items;
}
