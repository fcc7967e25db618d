-- Kinds of text that are cut in one way.
use Rattle.std.specs.Prelude.{◌≡◌, ℕ, Bool, true, ◌==◌, not, List, [], ◌∷◌, ◌++◌}
use Rattle.std.specs.List.{concat, list_all, AllByRecursion}

-- ---- bytes

-- a byte is not the one that ends a line
abbrev pub is_no_feed : ℕ → Bool
is_no_feed byte = not (byte == 10)

-- a byte is not a space
abbrev pub is_no_space : ℕ → Bool
is_no_space byte = not (byte == 32)

-- no byte of the key separates words
abbrev pub IsWord : List ℕ → Type 0
IsWord key = list_all is_no_space key ≡ true

-- no byte of the key ends a line
abbrev pub IsOfLine : List ℕ → Type 0
IsOfLine key = list_all is_no_feed key ≡ true

-- ---- kinds of text

-- bytes that end no line, and the byte that ends one
pub record IsLine (text : List ℕ) : Type 0 where
  pub body : List ℕ
  pub inner : list_all is_no_feed body ≡ true
  pub is : text ≡ body ++ 10 ∷ []

-- any number of texts of the one kind, and then one of the other
pub record IsSeries (IsItem IsEnd : List ℕ → Type 0) (text : List ℕ) : Type 0 where
  pub items : List (List ℕ)
  pub last : List ℕ
  pub each : AllByRecursion IsItem items
  pub end : IsEnd last
  pub is : text ≡ concat items ++ last

-- ---- cuts

-- the same bytes come after two texts of the kind if these texts stand in front of the same bytes: so neither begins
-- the other
abbrev pub AreCut : (List ℕ → Type 0) → Type 0
AreCut IsText = (a b more other : List ℕ) → IsText a → IsText b → a ++ more ≡ b ++ other → more ≡ other

-- no text of the first kind and one of the second stand in front of the same bytes
abbrev pub AreApart : (List ℕ → Type 0) → (List ℕ → Type 0) → Type 0
AreApart IsText IsOther = (a b more other : List ℕ) → IsText a → IsOther b → a ++ more ≡ b ++ other → ⊥
