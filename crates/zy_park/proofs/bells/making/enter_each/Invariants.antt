use Rattle.std.proofs.Common.{◌≡◌, ◌≤◌, length, map, take, vec_len}
use Rattle.std.specs.Prelude.{vec_capacity}
use Rattle.zy_park.specs.Bell.{new_seat}
use Rattle.zy_park.proofs.bells.making.enter_each.Given as goal

abbrev pub invariant-loop-i : goal.invariant-loop-i
invariant-loop-i l = record {
  room : length l.bells.items ≤ vec_capacity l.seats;
  count : vec_len l.seats ≡ l.i;
  made : l.seats.items ≡ map new_seat (take l.i l.bells.items);
}
