-- Lists as clauses read them, by `slice_get`, of which one member is changed.
use Rattle.std.proofs.Common.{◌≡◌, ◌≢◌, ℕ, zero, suc, ◌<◌, List, [], ◌∷◌, length, set, get_or, Some, slice_get, refl, sym, ap, arith}

-- the member at an index below the length
pub get_at : {A : Type 0} (l : List A) (i : ℕ) (x d : A) → i < length l → x ≡ get_or l i d → slice_get l i ≡ Some x
get_at [] i x d lt e = absurd (omega arith)
get_at (y ∷ ys) zero x d lt e = ap Some (sym e)
get_at (y ∷ ys) (suc i) x d lt e = get_at ys i x d (omega arith) e

-- the index of a member is below the length
pub get_below : {A : Type 0} (l : List A) (i : ℕ) (x : A) → slice_get l i ≡ Some x → i < length l
get_below [] i x e = absurd (cc)
get_below (y ∷ ys) zero x e = omega arith
get_below (y ∷ ys) (suc i) x e = let h = get_below ys i x e in omega arith

-- the other members stay
pub get_set_else : {A : Type 0} (l : List A) (i j : ℕ) (a : A) → j ≢ i → slice_get (set l i a) j ≡ slice_get l j
get_set_else [] i j a ne = refl
get_set_else (y ∷ ys) zero zero a ne = absurd (ne refl)
get_set_else (y ∷ ys) zero (suc j) a ne = refl
get_set_else (y ∷ ys) (suc i) zero a ne = refl
get_set_else (y ∷ ys) (suc i) (suc j) a ne = get_set_else ys i j a (λ e. ne (ap suc e))

-- the new member
pub get_set_there : {A : Type 0} (l : List A) (i : ℕ) (a x : A) → slice_get l i ≡ Some x → slice_get (set l i a) i ≡ Some a
get_set_there [] i a x e = cc
get_set_there (y ∷ ys) zero a x e = refl
get_set_there (y ∷ ys) (suc i) a x e = get_set_there ys i a x e

-- a member that was set is the one now at that index
pub get_set_same : {A : Type 0} (l : List A) (i : ℕ) (a x : A) → slice_get (set l i a) i ≡ Some x → a ≡ x
get_set_same [] i a x e = absurd (cc)
get_set_same (y ∷ ys) zero a x e = cc
get_set_same (y ∷ ys) (suc i) a x e = get_set_same ys i a x e

-- setting a member to its own value changes nothing
pub set_there : {A : Type 0} (l : List A) (i : ℕ) (x : A) → slice_get l i ≡ Some x → set l i x ≡ l
set_there [] i x e = refl
set_there (y ∷ ys) zero x e = let is : y ≡ x = cc in ap (λ z. z ∷ ys) (sym is)
set_there (y ∷ ys) (suc i) x e = ap (λ l. y ∷ l) (set_there ys i x e)

-- of two changes at one index, the last remains
pub set_twice : {A : Type 0} (l : List A) (i : ℕ) (a b : A) → set (set l i a) i b ≡ set l i b
set_twice [] i a b = refl
set_twice (y ∷ ys) zero a b = refl
set_twice (y ∷ ys) (suc i) a b = ap (λ l. y ∷ l) (set_twice ys i a b)
