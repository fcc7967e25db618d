-- The number of seats of each kind, after one was changed or added.
use Rattle.std.proofs.Common.{◌≡◌, ℕ, zero, suc, ◌+◌, ◌<◌, ◌≤◌, List, [], ◌∷◌, ◌++◌, set, true, false, sym, ap, arith}
use mathlib.Core.Option.{some, some-injective, some-ne-none}
use lib.ListN.{get_elem?}
use Rattle.zy_control.specs.declared.view.Role.{Role}
use Rattle.zy_control.specs.declared.view.Role.TheVariants.{Root, Core, Watcher}
use Rattle.zy_control.specs.declared.view.View.{View}
use Rattle.zy_control.specs.View.{IsUncounted}
use Rattle.zy_control.specs.ControlRule.{has_one, is_one, counted_in, cores_in}

-- one seat was changed
pub counted_set : (vs : List View) (j : ℕ) (v w : View) → get_elem? vs j ≡ some v → counted_in (set vs j w) + has_one v.role ≡ counted_in vs + has_one w.role
counted_set [] j v w e = absurd (some-ne-none v (sym e))
counted_set (x ∷ xs) zero v w e = let is = ap (λ (y : View). has_one y.role) (some-injective x v e) in omega arith
counted_set (x ∷ xs) (suc j) v w e = let r = counted_set xs j v w e in omega arith

pub cores_set : (vs : List View) (j : ℕ) (v w : View) → get_elem? vs j ≡ some v → cores_in (set vs j w) + is_one v.role ≡ cores_in vs + is_one w.role
cores_set [] j v w e = absurd (some-ne-none v (sym e))
cores_set (x ∷ xs) zero v w e = let is = ap (λ (y : View). is_one y.role) (some-injective x v e) in omega arith
cores_set (x ∷ xs) (suc j) v w e = let r = cores_set xs j v w e in omega arith

-- one seat was added
pub counted_end : (vs : List View) (v : View) → counted_in (vs ++ v ∷ []) ≡ counted_in vs + has_one v.role
counted_end [] v = omega arith
counted_end (x ∷ xs) v = let r = counted_end xs v in omega arith

pub cores_end : (vs : List View) (v : View) → cores_in (vs ++ v ∷ []) ≡ cores_in vs + is_one v.role
cores_end [] v = omega arith
cores_end (x ∷ xs) v = let r = cores_end xs v in omega arith

-- only cores count themselves, each once
one_le : (r : Role) → has_one r ≤ is_one r
one_le (Root given) = omega arith
one_le (Core number true announced) = omega arith
one_le (Core number false announced) = omega arith
one_le Watcher = omega arith

pub counted_le : (vs : List View) → counted_in vs ≤ cores_in vs
counted_le [] = omega arith
counted_le (v ∷ vs) = let a = one_le v.role in let b = counted_le vs in omega arith

one_less : (r : Role) → IsUncounted r → has_one r < is_one r
one_less (Root given) is = absurd is
one_less (Core number true announced) is = absurd (cc)
one_less (Core number false announced) is = omega arith
one_less Watcher is = absurd is

-- while a core has not counted itself, the count is below the number of cores
pub missing : (vs : List View) (j : ℕ) (v : View) → get_elem? vs j ≡ some v → IsUncounted v.role → counted_in vs < cores_in vs
missing [] j v e is = absurd (some-ne-none v (sym e))
missing (x ∷ xs) zero v e is =
    let same = some-injective x v e in
    let less = one_less v.role is in
    let a = ap (λ (y : View). has_one y.role) same in let b = ap (λ (y : View). is_one y.role) same in
    let r = counted_le xs in omega arith
missing (x ∷ xs) (suc j) v e is = let a = one_le x.role in let r = missing xs j v e is in omega arith
