-- Lists with one more member, and the first member of a list.
use Rattle.std.proofs.Common.{◌≡◌, ℕ, zero, suc, ◌<◌, List, [], ◌∷◌, ◌++◌, length, get_or, Some, slice_get, refl, sym, ap, subst, arith}
use Rattle.std.specs.Prelude.{remove}
use Rattle.std.specs.List.{AllByRecursion}

-- a property of each member, by its place, after one further member
pub each_push : {A : Type 0} (P : ℕ → A → Type 0) (xs : List A) (x : A) → ((i : ℕ) (y : A) → slice_get xs i ≡ Some y → P i y) → P (length xs) x → (i : ℕ) (y : A) → slice_get (xs ++ x ∷ []) i ≡ Some y → P i y
each_push P [] x all here zero y at = let is : x ≡ y = cc in subst (P 0) is here
each_push P [] x all here (suc i) y at = absurd (cc)
each_push P (z ∷ zs) x all here zero y at = all zero y at
each_push P (z ∷ zs) x all here (suc i) y at = each_push (λ k w. P (suc k) w) zs x (λ j w there. all (suc j) w there) here i y at

-- what holds of each member of two lists holds of each member of both together
pub all_append : {X : Type 0} (P : X → Type 0) (xs ys : List X) → AllByRecursion P xs → AllByRecursion P ys → AllByRecursion P (xs ++ ys)
all_append P [] ys front back = back
all_append P (x ∷ xs) ys front back = (front.0, all_append P xs ys front.1 back)

-- ---- the first member

pub none_left : {A : Type 0} (xs : List A) → length xs ≡ 0 → xs ≡ []
none_left [] is = refl
none_left (x ∷ xs) is = absurd (omega arith)

pub first_removed : {A : Type 0} (xs : List A) (x : A) → 0 < length xs → x ≡ get_or xs 0 x → xs ≡ x ∷ remove xs 0
first_removed [] x some is = absurd (omega arith)
first_removed (y ∷ ys) x some is = ap (λ z. z ∷ ys) (sym is)
