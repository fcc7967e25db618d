-- Two lists whose elements belong together one by one. No public clause cites this module.
use Rattle.std.specs.Prelude.{List, [], ◌∷◌, Option, None, Some, ⊤}

-- both exist and belong together, or neither exists
abbrev pub BothOrNone : {A B : Type 0} → (A → B → Type 0) → Option A → Option B → Type 0
BothOrNone R None None = ⊤
BothOrNone R (Some a) (Some b) = R a b
BothOrNone R a b = ⊥

-- each element belongs to the one at the same place
abbrev pub AllPairs : {A B : Type 0} → (A → B → Type 0) → List A → List B → Type 0
AllPairs R [] [] = ⊤
AllPairs R (a ∷ xs) (b ∷ ys) = R a b × AllPairs R xs ys
AllPairs R xs ys = ⊥
