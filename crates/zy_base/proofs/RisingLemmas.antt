-- Numbers that rise, with one further number above the last.
use Rattle.std.proofs.Common.{◌≡◌, ℕ, zero, suc, ◌+◌, ◌<◌, List, [], ◌∷◌, ◌++◌, sym, subst, arith}
use Rattle.std.specs.Prelude.{None, IfSome}
use Rattle.std.specs.List.{slice_index, last_or}
use Rattle.std.specs.List.Sorted.{IsStrictlyIncreasing}

pub increasing_push : (xs : List ℕ) (n : ℕ) → IsStrictlyIncreasing xs → IfSome (last_or None xs) (λ last. last < n) → IsStrictlyIncreasing (xs ++ n ∷ [])
increasing_push [] n rising above k within = absurd (omega arith)
increasing_push (x ∷ []) n rising above zero within = above
increasing_push (x ∷ []) n rising above (suc k) within = absurd (omega arith)
increasing_push (x ∷ y ∷ ys) n rising above zero within = rising zero (omega arith)
increasing_push (x ∷ y ∷ ys) n rising above (suc k) within =
    let next : (i : ℕ) → suc (i + 1) ≡ suc i + 1 = λ i. omega arith in
    subst (λ i. slice_index (y ∷ ys ++ n ∷ []) k < slice_index (x ∷ y ∷ ys ++ n ∷ []) i) (next k)
    (increasing_push (y ∷ ys) n (λ i more. subst (λ j. slice_index (y ∷ ys) i < slice_index (x ∷ y ∷ ys) j) (sym (next i)) (rising (suc i) (omega arith))) above k (omega arith))
