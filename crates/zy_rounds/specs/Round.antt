-- What turns and naps come to as a round of a group of cores.
use Rattle.std.specs.Prelude.{Bool, true, false}
use Rattle.zy_core.specs.declared.turn.Turn.TheVariants as turns
use Rattle.zy_core.specs.declared.turn.Came.{Came}
use Rattle.zy_core.specs.declared.nap.Nap.{Nap}
use Rattle.zy_rounds.specs.declared.round.Round.{Round}
use Rattle.zy_rounds.specs.declared.round.Round.TheVariants.{Worked, Busy, Rested, Idle}

-- what one turn came to
abbrev pub round_of : Came → Round
round_of Came.Worked = Worked
round_of Came.Busy = Busy
round_of (Came.Idle own) = Idle
round_of Came.Settled = Idle

-- what a nap came to
abbrev pub round_of_nap : Nap → Round
round_of_nap (Nap.Awake turns.Worked) = Worked
round_of_nap (Nap.Awake (turns.Idle own looks)) = Idle
round_of_nap (Nap.Awake (turns.Settled looks)) = Idle
round_of_nap (Nap.Ending done stop) = Idle
round_of_nap Nap.Rested = Rested

-- a round and another one: busy if one of them is, and otherwise worked if one of them has
abbrev pub with_round : Round → Round → Round
with_round Busy other = Busy
with_round Worked Busy = Busy
with_round Worked other = Worked
with_round Rested Busy = Busy
with_round Rested Worked = Worked
with_round Rested other = Idle
with_round Idle Busy = Busy
with_round Idle Worked = Worked
with_round Idle other = Idle

-- a round, and whether something else was done
abbrev pub with_work : Bool → Round → Round
with_work true Idle = Worked
with_work false Idle = Idle
with_work done Worked = Worked
with_work done Busy = Busy
with_work done Rested = Rested

-- after a round cores that rest may have something to do
abbrev pub calls_up : Round → Bool
calls_up Worked = true
calls_up Busy = true
calls_up Rested = false
calls_up Idle = false
