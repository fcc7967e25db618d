use Rattle.std.proofs.Common.{◌≡◌, ◌+◌, ◌≤◌, ◌++◌, true, vec_len}
use Rattle.std.specs.Prelude.{vec_capacity}
use Rattle.zy_drive.specs.Seat.{all_of_seats, all_of_groups, AllSettled}
use Rattle.zy_drive.proofs.seats.join_all.Given as goal

abbrev pub invariant-loop : goal.invariant-loop
invariant-loop g l =
    (vec_len l.seats + l.counter ≡ l.end)
    × (vec_len l.back + vec_len l.seats ≤ vec_capacity l.back)
    × (all_of_groups l.back.items ++ all_of_seats l.seats.items ≡ all_of_groups l.initial.back.items ++ all_of_seats l.fn.seats.items)
    × (l.all ≡ true → AllSettled l.initial.back.items → AllSettled l.back.items)
