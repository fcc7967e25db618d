-- What cores kept and the ends of their receive rings have shown.
use Rattle.std.specs.Prelude.{◌≡◌, List, [], ◌∷◌, ◌++◌, ⊤}
use Rattle.zy_rx.specs.declared.rx.Rx.{Rx}
use Rattle.zy_rx.specs.Ring.{Offering}
use Rattle.zy_core.specs.Core.{Cored, CoreKeeps}

-- the rule of a core, and what the two ends of its receive ring have shown: each item that was sent was taken, or
-- is known and not taken
pub record HasShown (inlet : Offering) (c : Cored) : Type 0 where
  pub keeps : CoreKeeps c
  pub known : List Rx
  pub all : inlet.sent ≡ c.outlet.taken ++ known

-- the same holds of each core and its inlet
abbrev pub HaveShown : List Offering → List Cored → Type 0
HaveShown [] [] = ⊤
HaveShown (inlet ∷ inlets) (core ∷ cores) = HasShown inlet core × HaveShown inlets cores
HaveShown inlets cores = ⊥
