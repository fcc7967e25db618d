-- A function on numbers that is changed at one number.
use Rattle.std.specs.Prelude.{ℕ, ◌==◌, if◌then◌else◌}

-- `a` at the number `k`, and `f` at every other
unfoldable pub put : {A : Type 0} → (ℕ → A) → ℕ → A → ℕ → A
put f k a j = if j == k then a else f j
