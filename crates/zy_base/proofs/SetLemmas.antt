-- Lists in which one place was changed, as they are read.
use Rattle.std.proofs.Common.{◌≡◌, ◌≢◌, ℕ, zero, suc, ◌<◌, List, [], ◌∷◌, length, set, refl, sym, ap, arith}
use Rattle.std.specs.Prelude.{Some}
use Rattle.std.specs.List.{slice_get}

module _ {A : Type 0} where
  -- the place has what was put there
  pub slice_get-set : (xs : List A) (i : ℕ) (a : A) → i < length xs → slice_get (set xs i a) i ≡ Some a
  slice_get-set [] i a within = absurd (omega arith)
  slice_get-set (x ∷ xs) zero a within = refl
  slice_get-set (x ∷ xs) (suc i) a within = slice_get-set xs i a (omega arith)

  -- nothing else is there
  pub slice_get-set_is : (xs : List A) (i : ℕ) (a b : A) → slice_get (set xs i a) i ≡ Some b → a ≡ b
  slice_get-set_is [] i a b is = cc
  slice_get-set_is (x ∷ xs) zero a b is = cc
  slice_get-set_is (x ∷ xs) (suc i) a b is = slice_get-set_is xs i a b is

  -- every other place has what it had
  pub slice_get-set_other : (xs : List A) (i j : ℕ) (a : A) → j ≢ i → slice_get (set xs i a) j ≡ slice_get xs j
  slice_get-set_other [] i j a other = refl
  slice_get-set_other (x ∷ xs) zero zero a other = absurd (other refl)
  slice_get-set_other (x ∷ xs) zero (suc j) a other = refl
  slice_get-set_other (x ∷ xs) (suc i) zero a other = refl
  slice_get-set_other (x ∷ xs) (suc i) (suc j) a other = slice_get-set_other xs i j a (λ same. other (ap suc same))

  -- putting an element where it already is changes nothing
  pub set-same : (xs : List A) (i : ℕ) (a : A) → slice_get xs i ≡ Some a → set xs i a ≡ xs
  set-same [] i a is = refl
  set-same (x ∷ xs) zero a is = let same : x ≡ a = cc in ap (λ y. y ∷ xs) (sym same)
  set-same (x ∷ xs) (suc i) a is = ap (λ l. x ∷ l) (set-same xs i a is)
