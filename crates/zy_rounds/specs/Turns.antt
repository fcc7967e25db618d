-- Turns of cores, each of which takes at most 2^48.
use Rattle.std.specs.Prelude.{◌≡◌, ◌⊎◌, ℕ, ◌+◌, ◌<◌, ◌≤◌, ◌^◌, nat_lt, if◌then◌else◌, List, [], ◌∷◌, map, Option, Some, slice_get}
use Rattle.zy_core.specs.Core.{Cored}
use Rattle.zy_core.specs.declared.turn.Came.{Came}
use Rattle.zy_core.specs.Turn.{CameTo}
use Rattle.zy_steal.specs.declared.looks.Look.{Look}
use Rattle.zy_rounds.specs.declared.round.Round.{Round}
use Rattle.zy_rounds.specs.declared.round.Round.TheVariants.{Idle}
use Rattle.zy_rounds.specs.Round.{round_of, with_round}

-- ---- one core

-- a core took a turn, which came to this round, and its looks overwrote the earlier ones; or it took none, since it
-- had taken the most turns that a core may take
abbrev pub TurnedTo : Cored → Cored → List (Option Look) → List (Option Look) → Round → Type 0
TurnedTo before after looks looks' round =
    ((before.turns < 2 ^ 48) × (after.turns ≡ before.turns + 1)
    × ((came : Came) × (round ≡ round_of came) × CameTo before after looks looks' came))
    ⊎ ((2 ^ 48 ≤ before.turns) × (after ≡ before) × (round ≡ Idle))

-- a core took one turn more; or it took none, since it had taken the most turns that a core may take
abbrev pub HasTurned : Cored → Cored → Type 0
HasTurned before after = (after.turns ≡ before.turns + 1) ⊎ ((2 ^ 48 ≤ before.turns) × (after ≡ before))

-- ---- several cores

-- each core is related in this way to what it became
abbrev pub EachBecame : (Cored → Cored → Type 0) → List Cored → List Cored → Type 0
EachBecame R before after = (i : ℕ) (core core' : Cored)
    → slice_get before i ≡ Some core → slice_get after i ≡ Some core' → R core core'

-- each core took one turn more, or had taken the most
abbrev pub EachTurned : List Cored → List Cored → Type 0
EachTurned before after = EachBecame HasTurned before after

-- each core took a turn, one after the other, and after a round that came to `first` these turns came to this round
abbrev pub AllTurned : List Cored → List Cored → List (Option Look) → List (Option Look) → Round → Round → Type 0
AllTurned [] [] looks looks' first round = (looks' ≡ looks) × (round ≡ first)
AllTurned (core ∷ cores) (core' ∷ cores') looks looks' first round =
    (between : List (Option Look)) × (turn : Round) × TurnedTo core core' looks between turn
    × AllTurned cores cores' between looks' (with_round first turn) round
AllTurned [] (core ∷ cores) looks looks' first round = ⊥
AllTurned (core ∷ cores) [] looks looks' first round = ⊥

-- ---- numbers of turns

-- how many turns each core has taken
abbrev pub turns_of : List Cored → List ℕ
turns_of cores = map (λ (c : Cored). c.turns) cores

-- the number of a core's turns after one more, which it takes if it has taken fewer than 2^48
abbrev pub next_turn : ℕ → ℕ
next_turn turns = if nat_lt turns (2 ^ 48) then turns + 1 else turns

-- each core took one turn more, if it had not taken the most
abbrev pub HaveTurned : List Cored → List Cored → Type 0
HaveTurned before after = turns_of after ≡ map next_turn (turns_of before)

-- no core took a turn
abbrev pub SameTurns : List Cored → List Cored → Type 0
SameTurns before after = turns_of after ≡ turns_of before
