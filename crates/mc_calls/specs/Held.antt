-- How many commands were finished in holds.
use Rattle.std.specs.Prelude.{ℕ, ◌+◌, List, [], ◌∷◌}
use Rattle.mc_calls.specs.declared.hold.Hold.{Hold}

-- the counts of holds, added up
abbrev pub held_in : List Hold → ℕ
held_in [] = 0
held_in (hold ∷ holds) = hold.count + held_in holds
