-- Hands, the marks that are kept for their places, and the slots that they have taken.
use Rattle.std.specs.Prelude.{ℕ, zero, suc, ◌+◌, List, [], ◌∷◌, ◌++◌, ◌==◌, cond, Option, Some, None}

-- all members but the first
abbrev pub rest_of : List ℕ → List ℕ
rest_of [] = []
rest_of (x ∷ xs) = xs

-- the first element, or 0 if there is none
abbrev pub first_of : List ℕ → ℕ
first_of [] = 0
first_of (x ∷ xs) = x

-- the numbers below n, followed by the others
abbrev pub below_then : ℕ → List ℕ → List ℕ
below_then zero xs = xs
below_then (suc n) xs = below_then n (n ∷ xs)

module _ {T : Type 0} where
  -- the slots of these places: taken, with nothing in them
  abbrev pub emptied : List ℕ → List (ℕ × Option T)
  emptied [] = []
  emptied (k ∷ ks) = (k, None) ∷ emptied ks

  -- the mark that is kept for a place: that of the newest block
  abbrev pub marked : {M : Type 0} → (T → M) → ℕ → List (ℕ × T) → Option M
  marked mark p [] = None
  marked mark p (x ∷ xs) = cond (p == x.0) (Some (mark x.1)) (marked mark p xs)

  -- the block of one slot, with its place
  abbrev pub one_left : ℕ → Option T → List (ℕ × T)
  one_left k None = []
  one_left k (Some b) = (k, b) ∷ []

  -- the blocks of slots, with their places, of which the first is k
  abbrev pub left_of : ℕ → List (Option T) → List (ℕ × T)
  left_of k [] = []
  left_of k (x ∷ xs) = one_left k x ++ left_of (k + 1) xs
