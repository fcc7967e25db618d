-- What stays of groups and seats while cores are driven. No public clause cites this module.
use Rattle.std.specs.Prelude.{◌≡◌, List, Vec, vec_len}
use Rattle.std.specs.declared.alloc.Global.{Global}
use Rattle.zy_core.specs.declared.logical_core.Core.{Core}
use Rattle.zy_drive.specs.declared.seat.Seat.{Seat}
use Rattle.zy_drive.specs.Seat.{all_of_groups, all_of_seats}

-- what stays of the cores of each group is as it was
abbrev pub SameGroups : List (Vec Core Global) → List (Vec Core Global) → Type 0
SameGroups before after = all_of_groups after ≡ all_of_groups before

-- what stays of the cores of each seat is as it was, and the number of seats is the same
abbrev pub SameSeats : Vec Seat Global → Vec Seat Global → Type 0
SameSeats before after =
    (all_of_seats after.items ≡ all_of_seats before.items) × (vec_len after ≡ vec_len before)
