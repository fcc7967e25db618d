use Rattle.std.proofs.Common.{◌≡◌, ◌+◌, ◌≤◌, ◌++◌, vec_len}
use Rattle.std.specs.Prelude.{vec_capacity}
use Rattle.zy_drive.specs.Resters.{AllAt}
use Rattle.zy_drive.specs.Seat.{all_of_seats, all_of_groups, AllFit}
use Rattle.zy_drive.proofs.seats.start_all.Given as goal

abbrev pub invariant-loop-t : goal.invariant-loop-t
invariant-loop-t g l =
    (vec_len l.groups + l.t ≡ l.count) × (l.count ≤ 64) × (l.count ≡ vec_len l.fn.groups)
    × (vec_len l.seats + vec_len l.groups ≤ vec_capacity l.seats)
    × (vec_len l.seats + vec_len l.groups ≡ vec_len l.initial.seats + l.count)
    × AllFit l.driving.shared.now (all_of_groups l.groups.items)
    × (all_of_seats l.seats.items ++ all_of_groups l.groups.items ≡ all_of_seats l.initial.seats.items ++ all_of_groups l.fn.groups.items)
    × AllAt l.driving.bells.now l.resters.bells
