-- The rights of all cores to rest. No public clause cites this module.
use Rattle.std.specs.Prelude.{◌≡◌, ℕ, List, [], ◌∷◌, ⊤}
use Rattle.zy_park.specs.Pass.{Bells, Passed}

-- the rights of all cores that may rest: their passes at the bells, by rising core, and after how many idle rounds in a
-- row they rest, 0 if none does
pub record AllResting : Type 0 where
  pub bells : List Passed
  pub rest : ℕ

-- the rights with these parts
abbrev pub all_resting : List Passed → ℕ → AllResting
all_resting bells rest = record { bells = bells; rest = rest }

-- each pass is at these bells
abbrev pub AllAt : Bells → List Passed → Type 0
AllAt bells [] = ⊤
AllAt bells (p ∷ ps) = (p.bells ≡ bells) × AllAt bells ps
