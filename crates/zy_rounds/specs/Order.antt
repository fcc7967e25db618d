-- The order of turns: rounds, and the core that each begins with.
use Rattle.std.specs.Prelude.{◌≡◌, ℕ, ◌+◌, ◌<◌, ◌%◌, Option, Some, None}
use Rattle.rand_pcg.specs.Lcg.{Lcg, started, increment_of}
use Rattle.rand_pcg.specs.Pcg.{multiplier_64, pcg32}

-- the generator of an order: stream 54 of the order's number; there is none without an order
abbrev pub drawn_by : Option ℕ → Option Lcg
drawn_by None = None
drawn_by (Some number) = Some (started 64 multiplier_64 number (increment_of 64 54))

-- the core that the next round begins with: the next number of the generator, modulo the number of cores; core 0
-- without a generator
abbrev pub first_core : ℕ → Option Lcg → ℕ
first_core cores None = 0
first_core cores (Some generator) = (pcg32 generator).0 % cores

-- the generator after one round
abbrev pub after_round : Option Lcg → Option Lcg
after_round None = None
after_round (Some generator) = Some (pcg32 generator).1

-- the core that takes the turn with this number in a round which begins with `first`
abbrev pub turn_of : ℕ → ℕ → ℕ → ℕ
turn_of cores first turn = (first + turn) % cores

-- the core has a turn in a round which begins with `first`, and no other
pub record HasOneTurn (cores first core : ℕ) : Type 0 where
  pub turn : ℕ
  pub within : turn < cores
  pub is : turn_of cores first turn ≡ core
  pub only : (other : ℕ) → other < cores → turn_of cores first other ≡ core → other ≡ turn
