-- Lists of slots and views, as the rule of a table reads them: by `get_elem?`.
use Rattle.std.specs.Prelude.{slice_get, Some}
use Rattle.std.proofs.Common.{◌≡◌, ◌≢◌, ◌⊎◌, ℕ, zero, suc, ◌+◌, ◌<◌, List, [], ◌∷◌, ◌++◌, length, take, add-one, refl, sym, ap, ◌∙◌, inl, inr, ⊎_elim, arith}
use mathlib.Core.Option.{some, some-injective, some-ne-none}
use lib.ListN.{get_elem?}

-- a member of a list with one element appended is an old member, or the appended one
pub at_end : {A : Type 0} (l : List A) (a b : A) (j : ℕ) → get_elem? (l ++ a ∷ []) j ≡ some b → (get_elem? l j ≡ some b) ⊎ ((j ≡ length l) × (a ≡ b))
at_end [] a b zero e = inr (refl, some-injective a b e)
at_end [] a b (suc j) e = absurd (some-ne-none b (sym e))
at_end (x ∷ xs) a b zero e = inl e
at_end (x ∷ xs) a b (suc j) e = ⊎_elim (λ h. inl h) (λ h. inr (ap suc h.0, h.1)) (at_end xs a b j e)

-- the first `k` members and the next one are the first `k + 1`
pub take_snoc : {A : Type 0} (l : List A) (k : ℕ) (a : A) → get_elem? l k ≡ some a → take (k + 1) l ≡ take k l ++ a ∷ []
take_snoc l k a e = rw add-one (go l k a e)
  where
    go : {A : Type 0} (l : List A) (k : ℕ) (a : A) → get_elem? l k ≡ some a → take (suc k) l ≡ take k l ++ a ∷ []
    go [] k a e = absurd (some-ne-none a (sym e))
    go (x ∷ xs) zero a e = λ i. some-injective x a e i ∷ []
    go (x ∷ xs) (suc k) a e = λ i. x ∷ go xs k a e i

-- a member, as clauses read it
pub get_of : {A : Type 0} (l : List A) (k : ℕ) (a : A) → get_elem? l k ≡ some a → slice_get l k ≡ Some a
get_of [] k a e = absurd (some-ne-none a (sym e))
get_of (x ∷ xs) zero a e = ap Some (some-injective x a e)
get_of (x ∷ xs) (suc k) a e = get_of xs k a e

-- the index of a member is below the length
pub at_below : {A : Type 0} (l : List A) (i : ℕ) (a : A) → get_elem? l i ≡ some a → i < length l
at_below [] i a e = absurd (some-ne-none a (sym e))
at_below (x ∷ xs) zero a e = omega arith
at_below (x ∷ xs) (suc i) a e = let h = at_below xs i a e in omega arith

-- different members have different indices
pub places_apart : {A : Type 0} (l : List A) (i j : ℕ) (a b : A) → get_elem? l i ≡ some a → get_elem? l j ≡ some b → (a ≡ b → ⊥) → j ≢ i
places_apart l i j a b x y ne e = ne (some-injective _ _ (sym x ∙ ap (get_elem? l) (sym e) ∙ y))
