-- Where groups of cores are while threads drive them. No public clause cites this module.
use Rattle.std.specs.Prelude.{ℕ, ◌+◌, nat_lt, List, [], ◌∷◌, map, Bool, true, false, ◌&&◌, ◌||◌, not, if◌then◌else◌, Vec, ⊤}
use Rattle.zy_rounds.specs.declared.feeding.Step.{Step}
use Rattle.zy_drive.specs.declared.tending.Next.{Next}
use Rattle.zy_drive.specs.declared.tending.Next.TheVariants.{Made, Broken, Stopped}
use Rattle.std.specs.declared.alloc.Global.{Global}
use Rattle.zy_core.specs.declared.logical_core.Core.{Core}
use Rattle.zy_drive.specs.declared.seat.Seat.{Seat}
use Rattle.zy_drive.specs.declared.seat.Seat.TheVariants.{Away, Here}
use Rattle.zy_core.specs.Share.{Sharing}
use Rattle.zy_core.specs.Core.{Identity}
use Rattle.zy_core.specs.Cores.{identities, EachFits, EachSettled}
use Rattle.zy_rounds.specs.Turns.{turns_of, next_turn}
use Rattle.zy_rounds.specs.Counting.{have_all_blocks}

-- what stays of the cores of a seat
abbrev pub seat_identities : Seat → List Identity
seat_identities (Away handle) = identities handle.promise.before.value.cores
seat_identities (Here group) = identities group.cores

-- what stays of the cores of all seats
abbrev pub all_of_seats : List Seat → List (List Identity)
all_of_seats seats = map seat_identities seats

-- what stays of the cores of groups
abbrev pub all_of_groups : List (Vec Core Global) → List (List Identity)
all_of_groups groups = map (λ (g : Vec Core Global). identities g.items) groups

-- each core of each group is one of the shared parts
abbrev pub AllFit : Sharing → List (List Identity) → Type 0
AllFit shared [] = ⊤
AllFit shared (ids ∷ rest) = EachFits shared ids × AllFit shared rest

-- each core of each group is settled
abbrev pub AllSettled : List (Vec Core Global) → Type 0
AllSettled [] = ⊤
AllSettled (group ∷ groups) = EachSettled group.items × AllSettled groups

-- ---- the caller

-- a group is with the caller
abbrev pub are_some_here : List Seat → Bool
are_some_here [] = false
are_some_here (Away handle ∷ seats) = are_some_here seats
are_some_here (Here group ∷ seats) = true

-- a block of a core that is with the caller is away
abbrev pub are_some_away : List Seat → Bool
are_some_away [] = false
are_some_away (Away handle ∷ seats) = are_some_away seats
are_some_away (Here group ∷ seats) = not (have_all_blocks group.cores) || are_some_away seats

-- each group that is with the caller is done
abbrev pub are_done_here : List Seat → Bool
are_done_here [] = true
are_done_here (Away handle ∷ seats) = are_done_here seats
are_done_here (Here group ∷ seats) = group.done && are_done_here seats

-- how many turns each core has taken that is with the caller in this seat
abbrev pub turns_here : Seat → List ℕ
turns_here (Away handle) = []
turns_here (Here group) = turns_of group.cores

-- how many it will have taken after a round of the caller's cores: one more, unless its group is done
abbrev pub turns_due : Seat → List ℕ
turns_due (Away handle) = []
turns_due (Here group) = if group.done then turns_of group.cores else map next_turn (turns_of group.cores)

-- a fact about a step of the feeder, if stop was 0 and the feeder is not broken
abbrev pub IfMade : Next → (Step → Type 0) → Type 0
IfMade (Made step) P = P step
IfMade Broken P = ⊤
IfMade Stopped P = ⊤

-- how many items were offered in a row since the caller's cores took a turn: 0 if they are to take one
abbrev pub items_after : ℕ → Bool → ℕ
items_after items offered = if offered && nat_lt items 64 then items + 1 else 0
