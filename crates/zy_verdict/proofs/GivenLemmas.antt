-- Uniques that are given within bounds.
use Rattle.std.proofs.Common.{ℕ, ◌≤◌, List, [], ◌∷◌, Option, None, Some, arith}
use Rattle.mc_allows.specs.Steps.{KeyStep, made, lost, unique_stored}
use Rattle.zy_verdict.specs.Between.{IsGivenFrom, AreGivenFrom}

one_wider : (least most low high : ℕ) (given : Option ℕ) → low ≤ least → most ≤ high → IsGivenFrom least most given → IsGivenFrom low high given
one_wider least most low high None lower higher within = within
one_wider least most low high (Some unique) lower higher within = let first = within.0 in let last = within.1 in (omega (arith, first, lower), omega (arith, last, higher))

-- uniques that are given within bounds are given within wider ones
pub wider : (least most low high : ℕ) (steps : List KeyStep) → low ≤ least → most ≤ high → AreGivenFrom least most steps → AreGivenFrom low high steps
wider least most low high [] lower higher within = within
wider least most low high (made name call said after ∷ steps) lower higher within =
    (one_wider least most low high (unique_stored said after) lower higher within.0, wider least most low high steps lower higher within.1)
wider least most low high (lost ∷ steps) lower higher within = wider least most low high steps lower higher within
