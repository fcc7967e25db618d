-- The seats of the cores with one number, and the bit of sleepers that they have.
use Rattle.std.proofs.Common.{◌≡◌, ◌≢◌, ℕ, zero, suc, ◌+◌, ◌≤◌, ◌==◌, List, [], ◌∷◌, ◌++◌, set, true, false, refl}
use Rattle.std.proofs.Common.{sym, ap, arith, eq-eqb, ne_eqb}
use mathlib.Core.Option.{some, some-injective, some-ne-none}
use lib.ListN.{get_elem?}
use Rattle.zy_control.specs.declared.view.Role.{Role}
use Rattle.zy_control.specs.declared.view.Role.TheVariants.{Root, Core, Watcher}
use Rattle.zy_control.specs.declared.view.View.{View}
use Rattle.zy_control.specs.View.{counted}
use Rattle.zy_control.specs.ControlRule.{one_if, is_named, is_asleep, named_in, asleep_in}

-- ---- one seat

pub one_same : (n i : ℕ) → n ≡ i → one_if (n == i) ≡ 1
one_same n i e = ap one_if (eq-eqb n i e)

pub one_other : (n i : ℕ) → n ≢ i → one_if (n == i) ≡ 0
one_other n i ne = ap one_if (ne_eqb n i ne)

pub asleep_le : (i : ℕ) (r : Role) → is_asleep i r ≤ is_named i r
asleep_le i (Root given) = omega arith
asleep_le i (Core number has true) = omega arith
asleep_le i (Core number has false) = omega arith
asleep_le i Watcher = omega arith

-- counting itself changes neither
pub named_counted : (i : ℕ) (r : Role) → is_named i (counted r) ≡ is_named i r
named_counted i (Root given) = refl
named_counted i (Core number has announced) = refl
named_counted i Watcher = refl

pub asleep_counted : (i : ℕ) (r : Role) → is_asleep i (counted r) ≡ is_asleep i r
asleep_counted i (Root given) = refl
asleep_counted i (Core number has true) = refl
asleep_counted i (Core number has false) = refl
asleep_counted i Watcher = refl

-- ---- one seat was changed

pub named_set : (i : ℕ) (vs : List View) (j : ℕ) (v w : View) → get_elem? vs j ≡ some v → named_in i (set vs j w) + is_named i v.role ≡ named_in i vs + is_named i w.role
named_set i [] j v w e = absurd (some-ne-none v (sym e))
named_set i (x ∷ xs) zero v w e = let is = ap (λ (y : View). is_named i y.role) (some-injective x v e) in omega arith
named_set i (x ∷ xs) (suc j) v w e = let r = named_set i xs j v w e in omega arith

pub asleep_set : (i : ℕ) (vs : List View) (j : ℕ) (v w : View) → get_elem? vs j ≡ some v → asleep_in i (set vs j w) + is_asleep i v.role ≡ asleep_in i vs + is_asleep i w.role
asleep_set i [] j v w e = absurd (some-ne-none v (sym e))
asleep_set i (x ∷ xs) zero v w e = let is = ap (λ (y : View). is_asleep i y.role) (some-injective x v e) in omega arith
asleep_set i (x ∷ xs) (suc j) v w e = let r = asleep_set i xs j v w e in omega arith

-- ---- one seat was added

pub named_end : (i : ℕ) (vs : List View) (v : View) → named_in i (vs ++ v ∷ []) ≡ named_in i vs + is_named i v.role
named_end i [] v = omega arith
named_end i (x ∷ xs) v = let r = named_end i xs v in omega arith

pub asleep_end : (i : ℕ) (vs : List View) (v : View) → asleep_in i (vs ++ v ∷ []) ≡ asleep_in i vs + is_asleep i v.role
asleep_end i [] v = omega arith
asleep_end i (x ∷ xs) v = let r = asleep_end i xs v in omega arith

-- ---- a seat among all

-- of the seats with one number, no more have announced themselves than there are; and of the others too
pub asleep_few : (i : ℕ) (vs : List View) → asleep_in i vs ≤ named_in i vs
asleep_few i [] = omega arith
asleep_few i (v ∷ vs) = let a = asleep_le i v.role in let r = asleep_few i vs in omega arith

pub asleep_else : (i : ℕ) (vs : List View) (j : ℕ) (v : View) → get_elem? vs j ≡ some v → asleep_in i vs + is_named i v.role ≤ named_in i vs + is_asleep i v.role
asleep_else i [] j v e = absurd (some-ne-none v (sym e))
asleep_else i (x ∷ xs) zero v e =
    let same = some-injective x v e in
    let a = ap (λ (y : View). is_named i y.role) same in let b = ap (λ (y : View). is_asleep i y.role) same in
    let r = asleep_few i xs in omega arith
asleep_else i (x ∷ xs) (suc j) v e = let a = asleep_le i x.role in let r = asleep_else i xs j v e in omega arith

pub asleep_some : (i : ℕ) (vs : List View) (j : ℕ) (v : View) → get_elem? vs j ≡ some v → is_asleep i v.role ≤ asleep_in i vs
asleep_some i [] j v e = absurd (some-ne-none v (sym e))
asleep_some i (x ∷ xs) zero v e = let same = ap (λ (y : View). is_asleep i y.role) (some-injective x v e) in omega arith
asleep_some i (x ∷ xs) (suc j) v e = let r = asleep_some i xs j v e in omega arith
