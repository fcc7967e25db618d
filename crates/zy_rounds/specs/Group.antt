-- Groups of cores, each of which one thread drives, and their rounds.
use Rattle.std.specs.Prelude.{◌≡◌, ℕ, List, Option, Bool}
use Rattle.zy_park.specs.Pass.{Passed}
use Rattle.zy_core.specs.Core.{Cored}
use Rattle.zy_steal.specs.declared.looks.Look.{Look}
use Rattle.zy_rounds.specs.declared.round.Round.{Round}
use Rattle.zy_rounds.specs.declared.round.Round.TheVariants.{Idle}
use Rattle.zy_rounds.specs.Round.{with_work}
use Rattle.zy_rounds.specs.Turns.{AllTurned}
use Rattle.zy_rounds.specs.Counting.{EachNotes, some_due}
use Rattle.zy_rounds.specs.Naps.{FirstNapped}

-- the cores that one thread drives, and whether they found that all cores are done
pub record Grouped : Type 0 where
  pub cores : List Cored
  pub done : Bool

-- the group of these cores
abbrev pub grouped : List Cored → Bool → Grouped
grouped cores done = record { cores = cores; done = done }

-- ---- rounds

-- each core took a turn, and then each that was settled counted itself: together this came to this round
pub record GroupTurned (before after : List Cored) (round : Round) : Type 0 where
  pub looks : List (Option Look)
  pub noted : List (Option Look)
  pub turned : List Cored
  pub came : Round
  pub turns : AllTurned before turned looks noted Idle came
  pub notes : EachNotes turned after
  pub is : round ≡ with_work (some_due turned) came

-- the one core took a nap, and then counted itself if it was settled: together this came to this round
pub record GroupNapped (cores : ℕ) (before after : List Cored) (bell bell' : Passed) (round : Round) : Type 0 where
  pub napped : List Cored
  pub came : Round
  pub nap : FirstNapped cores before napped bell bell' came
  pub notes : EachNotes napped after
  pub is : round ≡ with_work (some_due napped) came
