-- Sums over the first numbers, of which one summand is changed.
use Rattle.std.proofs.Common.{◌≡◌, ◌≢◌, ℕ, zero, suc, ◌+◌, ◌*◌, ◌<◌, ◌≤◌, refl, sym, ap, arith}
use mathlib.Core.Logic.{dite}
use native.Mathlib.Decide.{ℕ_discrete}
use Rattle.zy_table.specs.Sum.{sum_below}

-- equal summands have equal sums
pub sum_same : (n : ℕ) (f g : ℕ → ℕ) → ((j : ℕ) → j < n → g j ≡ f j) → sum_below n g ≡ sum_below n f
unfolding sum_below
sum_same zero f g same = refl
sum_same (suc n) f g same = let a = same n (omega arith) in let b = sum_same n f g (λ j h. same j (omega arith)) in omega arith

-- one summand is changed
pub sum_changed : (n k : ℕ) (f g : ℕ → ℕ) → k < n → ((j : ℕ) → j ≢ k → g j ≡ f j) → sum_below n g + f k ≡ sum_below n f + g k
unfolding sum_below
sum_changed zero k f g lt same = absurd (omega arith)
sum_changed (suc n) k f g lt same = dite (ℕ_discrete k n)
    (λ e. let a = sum_same n f g (λ j h. same j (λ x. omega arith)) in let b = ap f e in let c = ap g e in omega arith)
    (λ ne. let a = sum_changed n k f g (omega arith) same in let b = same n (λ e. ne (sym e)) in omega arith)

-- the sum of summands that are at most `b`
pub sum_bound : (n b : ℕ) (f : ℕ → ℕ) → ((j : ℕ) → f j ≤ b) → sum_below n f ≤ n * b
unfolding sum_below
sum_bound zero b f le = omega arith
sum_bound (suc n) b f le = let a = sum_bound n b f le in let c = le n in omega arith

-- the sum where, besides, one of them is less
pub sum_less : (n b k : ℕ) (f : ℕ → ℕ) → ((j : ℕ) → f j ≤ b) → k < n → f k < b → sum_below n f < n * b
unfolding sum_below
sum_less zero b k f le lt less = absurd (omega arith)
sum_less (suc n) b k f le lt less = dite (ℕ_discrete k n)
    (λ e. let a = sum_bound n b f le in let c = ap f e in omega arith)
    (λ ne. let a = sum_less n b k f le (omega arith) less in let c = le n in omega arith)
