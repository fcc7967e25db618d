-- Facts for proofs, by whether a fault was met.
use Rattle.std.proofs.Common.{◌≡◌, ap, subst}
use Rattle.std.specs.Prelude.{Option, Some, None, ⊤}

-- there is no fault
abbrev IsNone : {F : Type 0} → Option F → Type 0
IsNone None = ⊤
IsNone (Some fault) = ⊥

-- the function of the fault, or another value if there is none
abbrev or_else : {F D : Type 0} → (F → D) → D → Option F → D
or_else broken other None = other
or_else broken other (Some fault) = broken fault

-- if none was met, this one was not
pub none_met : {F : Type 0} (fault : F) → None ≡ Some fault → ⊥
none_met {F} fault is = subst (λ (o : Option F). IsNone o) is tt

-- the place after a fault is that of the fault that was met
pub one_met : {F D : Type 0} (broken : F → D) (found fault : F) → Some found ≡ Some fault → broken found ≡ broken fault
one_met {F} broken found fault is = ap (λ (o : Option F). or_else broken (broken found) o) is
