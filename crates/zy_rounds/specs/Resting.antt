-- How a group of one core rests.
use Rattle.std.specs.Prelude.{◌≡◌, ℕ, ◌+◌, nat_lt, if◌then◌else◌, List, Bool, true, false, Option, Some, None, ⊤}
use Rattle.zy_park.specs.Pass.{Bells, Passed}
use Rattle.zy_core.specs.Core.{Cored, Identity}
use Rattle.zy_rounds.specs.declared.round.Round.{Round}
use Rattle.zy_rounds.specs.declared.round.Round.TheVariants.{Worked, Busy, Rested, Idle}
use Rattle.zy_rounds.specs.Round.{calls_up}
use Rattle.zy_rounds.specs.Turns.{SameTurns}
use Rattle.zy_rounds.specs.Naps.{IsAlone, CallsUp}
use Rattle.zy_rounds.specs.Group.{GroupTurned, GroupNapped}

-- the right of a core to rest: its pass at the bells, after how many idle rounds in a row it rests, and how many
-- there were
pub record Resting : Type 0 where
  pub bell : Passed
  pub rest : ℕ
  pub idle : ℕ

-- the right to rest with these parts
abbrev pub resting_at : Passed → ℕ → ℕ → Resting
resting_at bell rest idle = record { bell = bell; rest = rest; idle = idle }

-- how many rounds in a row were idle after one more, at most `most`
abbrev pub idle_after : ℕ → ℕ → Round → ℕ
idle_after most idle Worked = 0
idle_after most idle Busy = 0
idle_after most idle Rested = 0
idle_after most idle Idle = if nat_lt idle most then idle + 1 else most

-- the right to rest after a round, with the pass as it is then
abbrev pub resting_after : Round → Passed → Resting → Resting
resting_after round bell r = resting_at bell r.rest (idle_after r.rest r.idle round)

-- a turn if fewer rounds in a row were idle than the right asks for, and otherwise a nap
abbrev pub GroupWorked : ℕ → Bool → List Cored → List Cored → Passed → Passed → Round → Type 0
GroupWorked cores true before after bell bell' round = GroupTurned before after round × (bell' ≡ bell)
GroupWorked cores false before after bell bell' round = GroupNapped cores before after bell bell' round

-- the core called up those that rest if it had to; otherwise it made no step
abbrev pub CallsUpIf : Bool → List Cored → List Cored → Passed → Passed → Type 0
CallsUpIf true before after bell bell' = CallsUp before after bell bell'
CallsUpIf false before after bell bell' = (after ≡ before) × (bell' ≡ bell)

-- a round of a group that can rest: a turn or a nap; if others may have something to do after it, a call to those that
-- rest; and a look whether all are done
pub record GroupRested (cores : ℕ) (before after : List Cored) (r r' : Resting) (round : Round) : Type 0 where
  pub worked : List Cored
  pub called : List Cored
  pub bell : Passed
  pub works : GroupWorked cores (nat_lt r.idle r.rest) before worked r.bell bell round
  pub calls : CallsUpIf (calls_up round) worked called bell r'.bell
  pub looks : SameTurns called after

-- if a group of these cores can rest, it rests at these bells, and is one core
abbrev pub CanRest : Bells → List Identity → Option Resting → Type 0
CanRest bells ids None = ⊤
CanRest bells ids (Some r) = (r.bell.bells ≡ bells) × IsAlone r.bell.core ids
