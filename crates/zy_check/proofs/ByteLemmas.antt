-- How many first bytes of two texts agree.
use Rattle.std.specs.Prelude.{if◌then◌else◌}
use Rattle.std.proofs.Common.{◌≡◌, ◌≢◌, ℕ, zero, suc, ◌+◌, ◌<◌, ◌≤◌, Bool, List, [], ◌∷◌, ◌++◌, length, take, get_or, refl, sym, ap, ◌∙◌, subst, arith, eq-eqb, ne_eqb}
use Rattle.std.proofs.lemmas.Bool.Decides.{eqb_tells}
use Rattle.std.proofs.Common.{inl, inr}
use Rattle.zy_check.specs.Cause.{agreeing}

same_first : (x : ℕ) (xs ys : List ℕ) → agreeing (x ∷ xs) (x ∷ ys) ≡ suc (agreeing xs ys)
same_first x xs ys = ap (λ (b : Bool). if b then suc (agreeing xs ys) else 0) (eq-eqb x x refl)

other_first : (x y : ℕ) (xs ys : List ℕ) → x ≢ y → agreeing (x ∷ xs) (y ∷ ys) ≡ 0
other_first x y xs ys other = ap (λ (b : Bool). if b then suc (agreeing xs ys) else 0) (ne_eqb x y other)

-- ---- where the first bytes agree and the next do not

pub agreeing_at : (xs ys : List ℕ) (at : ℕ) → take at xs ≡ take at ys → at ≤ length xs → at ≤ length ys
    → (at < length xs → at < length ys → get_or xs at 0 ≢ get_or ys at 0) → agreeing xs ys ≡ at
agreeing_at [] ys at same few short differs = omega arith
agreeing_at (x ∷ xs) [] at same few short differs = omega arith
agreeing_at (x ∷ xs) (y ∷ ys) zero same few short differs = other_first x y xs ys (differs (omega arith) (omega arith))
agreeing_at (x ∷ xs) (y ∷ ys) (suc at) same few short differs =
    let head : x ≡ y = cc in
    let tail : take at xs ≡ take at ys = cc in
    (λ i. agreeing (x ∷ xs) (sym head i ∷ ys)) ∙ same_first x xs ys
    ∙ ap suc (agreeing_at xs ys at tail (omega arith) (omega arith) (λ low high. differs (omega arith) (omega arith)))

-- ---- longer texts

-- the bytes that agree are not more than there are
pub agreeing_few : (xs ys : List ℕ) → (agreeing xs ys ≤ length xs) × (agreeing xs ys ≤ length ys)
agreeing_few [] ys = (omega arith, omega arith)
agreeing_few (x ∷ xs) [] = (omega arith, omega arith)
agreeing_few (x ∷ xs) (y ∷ ys) =
    let rest = agreeing_few xs ys in
    elim (eqb_tells x y) [
      | inl same ↦ rw same.0 (let a = rest.0 in let b = rest.1 in (omega arith, omega arith))
      | inr other ↦ rw other.0 (omega arith, omega arith)
    ]

-- a text agrees with itself
pub agreeing_self : (xs : List ℕ) → agreeing xs xs ≡ length xs
agreeing_self [] = refl
agreeing_self (x ∷ xs) = same_first x xs xs ∙ ap suc (agreeing_self xs)

-- if not all bytes of the second text agree, the bytes after it do not matter
pub agreeing_short : (xs ys zs : List ℕ) → agreeing xs ys < length ys → agreeing xs (ys ++ zs) ≡ agreeing xs ys
agreeing_short [] ys zs short = refl
agreeing_short (x ∷ xs) [] zs short = absurd (omega arith)
agreeing_short (x ∷ xs) (y ∷ ys) zs short =
    elim (eqb_tells x y) [
      | inl same ↦ (let less : suc (agreeing xs ys) < length (y ∷ ys) = subst (λ (b : Bool). (if b then suc (agreeing xs ys) else 0) < length (y ∷ ys)) same.0 short in
          rw same.0 (ap suc (agreeing_short xs ys zs (omega arith))))
      | inr other ↦ rw other.0 refl
    ]

-- where all bytes of the second text agree, the first begins with it
pub agreeing_all : (xs ys : List ℕ) → length ys ≤ agreeing xs ys → take (length ys) xs ≡ ys
agreeing_all xs [] all = refl
agreeing_all [] (y ∷ ys) all = absurd (omega arith)
agreeing_all (x ∷ xs) (y ∷ ys) all =
    elim (eqb_tells x y) [
      | inl same ↦ (let more : length (y ∷ ys) ≤ suc (agreeing xs ys) = subst (λ (b : Bool). length (y ∷ ys) ≤ (if b then suc (agreeing xs ys) else 0)) same.0 all in
          let rest = agreeing_all xs ys (omega arith) in λ i. same.1 i ∷ rest i)
      | inr other ↦ (let more : length (y ∷ ys) ≤ 0 = subst (λ (b : Bool). length (y ∷ ys) ≤ (if b then suc (agreeing xs ys) else 0)) other.0 all in absurd (omega arith))
    ]

-- the bytes after a common front
pub agreeing_behind : (front xs ys : List ℕ) → agreeing (front ++ xs) (front ++ ys) ≡ length front + agreeing xs ys
agreeing_behind [] xs ys = let none : 0 + agreeing xs ys ≡ agreeing xs ys = omega arith in sym none
agreeing_behind (x ∷ front) xs ys =
    let on : suc (length front + agreeing xs ys) ≡ length (x ∷ front) + agreeing xs ys = omega arith in
    same_first x (front ++ xs) (front ++ ys) ∙ ap suc (agreeing_behind front xs ys) ∙ on

-- texts not all of whose bytes agree are not the same
pub agreeing_differs : (xs ys : List ℕ) → agreeing xs ys < length ys → xs ≢ ys
agreeing_differs xs ys less same =
    let all : agreeing xs ys ≡ length ys = ap (λ (l : List ℕ). agreeing l ys) same ∙ agreeing_self ys in
    absurd (omega arith)

pub agreeing_differs_first : (xs ys : List ℕ) → agreeing xs ys < length xs → xs ≢ ys
agreeing_differs_first xs ys less same =
    let all : agreeing xs ys ≡ length xs = ap (λ (l : List ℕ). agreeing xs l) (sym same) ∙ agreeing_self xs in
    absurd (omega arith)
