-- The number of entries that all words show, after a change of one word.
use Rattle.std.proofs.Common.{◌≡◌, ℕ, zero, suc, ◌+◌, ◌/◌, ◌<◌, ◌≤◌, List, [], ◌∷◌, length, get_or, set, arith}
use Rattle.mc_store.specs.StoreRule.{halves}

-- one word is changed
pub halves_set : (ws : List ℕ) (i n : ℕ) → i < length ws → halves (set ws i n) + get_or ws i 0 / 2 ≡ halves ws + n / 2
halves_set [] i n h = absurd (omega arith)
halves_set (w ∷ ws) zero n h = omega arith
halves_set (w ∷ ws) (suc i) n h = let a = halves_set ws i n (omega arith) in omega arith

-- one word shows no more than all
pub halves_at : (ws : List ℕ) (i : ℕ) → get_or ws i 0 / 2 ≤ halves ws
halves_at [] i = omega arith
halves_at (w ∷ ws) zero = omega arith
halves_at (w ∷ ws) (suc i) = let a = halves_at ws i in omega arith
