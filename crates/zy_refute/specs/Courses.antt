-- What an order of calls at a key must be, as far as the rules need it.
use Rattle.std.specs.Prelude.{◌≡◌, ◌⊎◌, ℕ, true, false, List, [], ◌∷◌, ◌++◌, Option, None, Some}
use Rattle.std.specs.List.{slice_get}
use Rattle.mc_calls.specs.declared.item.Item.{Item}
use Rattle.mc_calls.specs.declared.call.Call.{Call}
use Rattle.mc_allows.specs.declared.call_name.CallName.{CallName}
use Rattle.mc_allows.specs.declared.said.Said.{Said}
use Rattle.mc_allows.specs.declared.fact.Fact.{Fact}
use Rattle.mc_allows.specs.Steps.{KeyStep, made, lost, item_after, IsAllowedChain}
use Rattle.mc_allows.specs.Facts.{holds}
use Rattle.mc_allows.specs.Needs.{Suits}
use Rattle.zy_refute.specs.declared.observed.Observed.{Observed}
use Rattle.zy_refute.specs.declared.store.Store.{Store}
use Rattle.zy_refute.specs.Observed.{is_surely_before}

-- ---- steps

-- a step is this call, and what was said suits what is shown
pub record IsStepOf (x : Observed) (name : CallName) (call : Call) (said : Said) : Type 0 where
  pub named : name ≡ x.name
  pub called : call ≡ x.call
  pub suits : Suits x.shown said

-- the call is among the steps
abbrev pub Occurs : Observed → List KeyStep → Type 0
Occurs x [] = ⊥
Occurs x (made name call said after ∷ steps) = IsStepOf x name call said ⊎ Occurs x steps
Occurs x (lost ∷ steps) = Occurs x steps

-- a step is one of the calls
pub record IsOneOf (calls : List Observed) (name : CallName) (call : Call) (said : Said) : Type 0 where
  pub at : ℕ
  pub x : Observed
  pub is : slice_get calls at ≡ Some x
  pub step : IsStepOf x name call said

-- each step is one of the calls
abbrev pub AreObserved : List Observed → List KeyStep → Type 0
AreObserved calls [] = Unit {0}
AreObserved calls (made name call said after ∷ steps) = IsOneOf calls name call said × AreObserved calls steps
AreObserved calls (lost ∷ steps) = AreObserved calls steps

-- ---- order

-- no call of this name is surely before one of the other name
abbrev pub IsNotBefore : List Observed → CallName → CallName → Type 0
IsNotBefore calls own name = (i j : ℕ) (x y : Observed) → slice_get calls i ≡ Some x → slice_get calls j ≡ Some y
    → own ≡ x.name → name ≡ y.name → is_surely_before x y ≡ false

-- a later step is another call, which is not surely before
pub record IsLaterStep (calls : List Observed) (name own : CallName) : Type 0 where
  pub other : own ≡ name → ⊥
  pub order : IsNotBefore calls own name

-- these steps may come after the call of this name
abbrev pub AreLater : List Observed → CallName → List KeyStep → Type 0
AreLater calls name [] = Unit {0}
AreLater calls name (made own call said after ∷ steps) = IsLaterStep calls name own × AreLater calls name steps
AreLater calls name (lost ∷ steps) = AreLater calls name steps

-- no call is there twice, and none after one that it is surely before
abbrev pub KeepOrder : List Observed → List KeyStep → Type 0
KeepOrder calls [] = Unit {0}
KeepOrder calls (made name call said after ∷ steps) = AreLater calls name steps × KeepOrder calls steps
KeepOrder calls (lost ∷ steps) = KeepOrder calls steps

-- ---- courses

-- the steps are an order of the calls at a key that has this first
pub record IsOrderOf (store : Store) (calls : List Observed) (first : Option Item) (steps : List KeyStep) : Type 0 where
  pub cold : store.warm ≡ false → first ≡ None
  pub chain : IsAllowedChain store.forget first steps
  pub observed : AreObserved calls steps
  pub sure : (at : ℕ) (x : Observed) → slice_get calls at ≡ Some x → x.sure ≡ true → Occurs x steps
  pub order : KeepOrder calls steps

-- the calls have no order
abbrev pub HaveNoOrder : Store → List Observed → Type 0
HaveNoOrder store calls = (first : Option Item) (steps : List KeyStep) → IsOrderOf store calls first steps → ⊥

-- in no order does a fact hold right before the call at this place of the list
abbrev pub IsNeverMet : Store → List Observed → Fact → ℕ → Type 0
IsNeverMet store calls fact reader = (x : Observed) → slice_get calls reader ≡ Some x → (first : Option Item)
    (front : List KeyStep) (name : CallName) (call : Call) (said : Said) (after : Option Item) (back : List KeyStep)
    → IsOrderOf store calls first (front ++ made name call said after ∷ back) → IsStepOf x name call said
    → holds fact (item_after first front) ≡ true → ⊥
