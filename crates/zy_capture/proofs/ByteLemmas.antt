-- Tests and places that both readers' lemmas use.
use Rattle.std.proofs.Common.{◌≡◌, ℕ, ◌<◌, Bool, true, false, List, ◌++◌, refl, ◌∙◌, ap, arith, append_assoc}
use Rattle.std.specs.Prelude.{◌==◌, ◌&&◌, if◌then◌else◌}
use Rattle.std.proofs.lemmas.Bool.Decides.{nat_tests}

-- ---- tests

pub both_true : (a b c d : ℕ) → (a == b && c == d) ≡ true → (a ≡ b) × (c ≡ d)
both_true a b c d is = grind (arith, nat_tests)

pub positive : (n : ℕ) → (n == 0) ≡ false → 0 < n
positive n is = grind (arith, nat_tests)

-- a fact of either way that a test goes
pub chosen : {S : Type 0} (P : S → Type 0) (test : Bool) (x y : S) → (test ≡ true → P x) → (test ≡ false → P y) → P (if test then x else y)
chosen P test x y first second =
    elim test as (λ (t : Bool). (t ≡ true → P x) → (t ≡ false → P y) → P (if t then x else y)) [ true ↦ λ one two. one refl | false ↦ λ one two. two refl ] first second

pub assoc_twice : (x y z s : List ℕ) → (x ++ (y ++ z)) ++ s ≡ x ++ (y ++ (z ++ s))
assoc_twice x y z s = append_assoc x (y ++ z) s ∙ ap (λ (l : List ℕ). x ++ l) (append_assoc y z s)
