-- How many flags are true.
use Rattle.std.specs.List.{slice_get}
use Rattle.std.proofs.Common.{◌≡◌, ℕ, zero, suc, ◌+◌, ◌≤◌, Bool, true, false, List, [], ◌∷◌, ◌++◌, map, take, Some, refl, ap, ◌∙◌, arith}
use Rattle.std.proofs.lemmas.List.{map-append}
use Rattle.zy_check.proofs.ListLemmas.{take_one}
use Rattle.zy_times.specs.Times.{trues, number_if}

trues-more : (flags : List Bool) (flag : Bool) → trues (flags ++ flag ∷ []) ≡ trues flags + number_if flag
trues-more [] true = refl
trues-more [] false = refl
trues-more (true ∷ flags) flag = let more = trues-more flags flag in omega (arith, more)
trues-more (false ∷ flags) flag = trues-more flags flag

pub trues_rise : (few many : ℕ) (flags : List Bool) → few ≤ many → trues (take few flags) ≤ trues (take many flags)
trues_rise zero many flags order = omega arith
trues_rise (suc few) zero flags order = absurd (omega arith)
trues_rise (suc few) (suc many) [] order = omega arith
trues_rise (suc few) (suc many) (true ∷ flags) order = let rest = trues_rise few many flags (omega arith) in omega (arith, rest)
trues_rise (suc few) (suc many) (false ∷ flags) order = trues_rise few many flags (omega arith)

-- one further element of a list with flags
pub trues_of-more : {A : Type 0} (flag_of : A → Bool) (xs : List A) (at : ℕ) (x : A) → slice_get xs at ≡ Some x → trues (map flag_of (take (at + 1) xs)) ≡ trues (map flag_of (take at xs)) + number_if (flag_of x)
trues_of-more {A} flag_of xs at x is =
    ap (λ (l : List A). trues (map flag_of l)) (take_one xs at x is) ∙ ap (λ (l : List Bool). trues l) (map-append flag_of (take at xs) (x ∷ [])) ∙ trues-more (map flag_of (take at xs)) (flag_of x)

-- one further flag
pub trues_one : (flags : List Bool) (at : ℕ) (flag : Bool) → slice_get flags at ≡ Some flag → trues (take (at + 1) flags) ≡ trues (take at flags) + number_if flag
trues_one flags at flag is = ap (λ (l : List Bool). trues l) (take_one flags at flag is) ∙ trues-more (take at flags) flag

-- no more than all
pub trues_most : (count : ℕ) (flags : List Bool) → trues (take count flags) ≤ trues flags
trues_most zero flags = omega arith
trues_most (suc count) [] = omega arith
trues_most (suc count) (true ∷ flags) = let most = trues_most count flags in omega (arith, most)
trues_most (suc count) (false ∷ flags) = trues_most count flags
