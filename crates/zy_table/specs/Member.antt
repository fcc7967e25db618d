-- Membership in lists of numbers.
use Rattle.std.specs.Prelude.{◌≡◌, ℕ, List, [], ◌∷◌, Bool, false, ◌||◌, ◌==◌, cond, ⊤}

-- the number is in the list
abbrev pub is_in : ℕ → List ℕ → Bool
is_in n [] = false
is_in n (x ∷ xs) = (n == x) || is_in n xs

-- the list without this number, wherever it occurs
abbrev pub without : ℕ → List ℕ → List ℕ
without n [] = []
without n (x ∷ xs) = cond (n == x) (without n xs) (x ∷ without n xs)

-- no number occurs twice in the list
abbrev pub IsDistinct : List ℕ → Type 0
IsDistinct [] = ⊤
IsDistinct (x ∷ xs) = (is_in x xs ≡ false) × IsDistinct xs
