-- The order in which a core looks at the other cores.
use Rattle.std.specs.Prelude.{ℕ, zero, suc, ◌+◌, ◌-◌, ◌%◌, List, [], ◌∷◌, ◌++◌, nat_lt, if◌then◌else◌}

-- among `cores` cores, the t-th one that a core looks at in its m-th steal call: a call goes once
-- round the other cores, and begins one core further than the call before it
abbrev pub victim : ℕ → ℕ → ℕ → ℕ → ℕ
victim cores core m t = (core + 1 + (m + t) % (cores - 1)) % cores

-- the first t of them
abbrev pub first_victims : ℕ → ℕ → ℕ → ℕ → List ℕ
first_victims cores core m zero = []
first_victims cores core m (suc t) = first_victims cores core m t ++ victim cores core m t ∷ []

-- all of them: one for each other core
abbrev pub order_of : ℕ → ℕ → ℕ → List ℕ
order_of cores core m = first_victims cores core m (cores - 1)

-- the other core with this number among the others
abbrev pub other_core : ℕ → ℕ → ℕ
other_core core at = if nat_lt at core then at else at + 1

-- the number of another core among the others
abbrev pub number_of : ℕ → ℕ → ℕ
number_of core other = if nat_lt other core then other else other - 1
