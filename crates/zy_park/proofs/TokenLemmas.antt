-- Each step on a token keeps its rule.
use Rattle.std.specs.Prelude.{Option}
use Rattle.std.proofs.Common.{◌≡◌, ℕ, zero, suc, ◌+◌, true, false, List, [], ◌∷◌, ◌++◌, set, refl, sym, ap, arith}
use mathlib.Core.Option.{some, some-injective, some-ne-none}
use lib.ListN.{get_elem?}
use Rattle.crossbeam_utils.specs.Register.{Admits, Turns, TurnsAt}
use Rattle.zy_control.specs.Pass.{Held}
use Rattle.zy_park.specs.declared.view.View.{View}
use Rattle.zy_park.specs.Token.{unrung, rings, takes, puts, takes_from, rung_in, taken_in, TokenRule}

-- one seat's view was changed
rung_set : (vs : List View) (j : ℕ) (v w : View) → get_elem? vs j ≡ some v → rung_in (set vs j w) + v.rung ≡ rung_in vs + w.rung
rung_set [] j v w e = absurd (some-ne-none v (sym e))
rung_set (x ∷ xs) zero v w e = let is = ap (λ (y : View). y.rung) (some-injective x v e) in omega arith
rung_set (x ∷ xs) (suc j) v w e = let r = rung_set xs j v w e in omega arith

taken_set : (vs : List View) (j : ℕ) (v w : View) → get_elem? vs j ≡ some v → taken_in (set vs j w) + v.taken ≡ taken_in vs + w.taken
taken_set [] j v w e = absurd (some-ne-none v (sym e))
taken_set (x ∷ xs) zero v w e = let is = ap (λ (y : View). y.taken) (some-injective x v e) in omega arith
taken_set (x ∷ xs) (suc j) v w e = let r = taken_set xs j v w e in omega arith

-- a seat was added
rung_end : (vs : List View) (v : View) → rung_in (vs ++ v ∷ []) ≡ rung_in vs + v.rung
rung_end [] v = omega arith
rung_end (x ∷ xs) v = let r = rung_end xs v in omega arith

taken_end : (vs : List View) (v : View) → taken_in (vs ++ v ∷ []) ≡ taken_in vs + v.taken
taken_end [] v = omega arith
taken_end (x ∷ xs) v = let r = taken_end xs v in omega arith

pub enters : Admits TokenRule unrung
enters x vs h = let a = rung_end vs unrung in let b = taken_end vs unrung in omega arith

pub rings_kept : (id : ℕ) (v : View) → Turns TokenRule id v (λ _. true) puts
rings_kept id v x vs h at = let a = rung_set vs id v (rings v) at in let b = taken_set vs id v (rings v) at in (rings v, omega arith, refl)

pub takes_kept : (lent : Option Held) (id : ℕ) (v : View) → TurnsAt TokenRule id v true false (takes_from lent)
takes_kept lent id v vs h at = let w = takes lent v in let a = rung_set vs id v w at in let b = taken_set vs id v w at in (w, omega arith, refl)
