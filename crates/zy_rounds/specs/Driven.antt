-- How driving the cores of a run ends.
use Rattle.std.specs.Prelude.{List, ⊤}
use Rattle.zy_core.specs.Core.{Cored}
use Rattle.zy_rounds.specs.declared.driven.Driven.{Driven}
use Rattle.zy_rounds.specs.declared.driven.Driven.TheVariants.{Settled, Broken, NoMemory}

-- the cores that are handed back
abbrev pub returned_cores : Driven → List Cored
returned_cores (Settled cores) = cores
returned_cores (Broken cores) = cores
returned_cores (NoMemory cores) = cores

-- the answer is `Settled`
abbrev pub IsSettledRun : Driven → Type 0
IsSettledRun (Settled cores) = ⊤
IsSettledRun (Broken cores) = ⊥
IsSettledRun (NoMemory cores) = ⊥

-- the answer is `Broken`
abbrev pub IsBrokenRun : Driven → Type 0
IsBrokenRun (Settled cores) = ⊥
IsBrokenRun (Broken cores) = ⊤
IsBrokenRun (NoMemory cores) = ⊥
