-- Places in an order of calls: what is surely before a call is in front of it.
use Rattle.std.specs.Prelude.{Option, None, Some, nat_eq, not}
use Rattle.std.proofs.Common.{◌≡◌, ◌⊎◌, inl, inr, ℕ, ◌<◌, Bool, true, false, List, [], ◌∷◌, ◌++◌, length, slice_index_or, refl, sym, ap, ◌∙◌, subst}
use Rattle.std.specs.List.{slice_get}
use Rattle.std.proofs.lemmas.Option.{slice_get-get_or}
use Rattle.std.proofs.lemmas.Bool.{and_parts, and_from, eq-eqb}
use Rattle.mc_calls.specs.declared.item.Item.{Item}
use Rattle.mc_calls.specs.declared.call.Call.{Call}
use Rattle.mc_allows.specs.declared.call_name.CallName.{CallName}
use Rattle.mc_allows.specs.declared.said.Said.{Said}
use Rattle.mc_allows.specs.declared.fact.Fact.{Fact}
use Rattle.mc_allows.specs.Allows.{Allows}
use Rattle.mc_allows.specs.Steps.{KeyStep, made, lost, AreAllowed, item_after}
use Rattle.mc_allows.specs.Facts.{may_hold_beside}
use Rattle.mc_allows.specs.Needs.{left_by}
use Rattle.mc_allows.specs.Turns.{HoldsAfterEach}
use Rattle.mc_allows.proofs.MakeLemmas.{both_so}
use Rattle.mc_allows.proofs.TurnLemmas.{not_excluded}
use Rattle.zy_refute.specs.declared.observed.Observed.{Observed}
use Rattle.zy_refute.specs.Observed.{is_one_session, is_same_name, is_surely_before}
use Rattle.zy_refute.specs.Courses.{IsStepOf, Occurs, IsOneOf, AreObserved, IsLaterStep, AreLater, KeepOrder}
use Rattle.zy_refute.specs.Unmet.{IsBreaker, IsBreakerIn, IsUndone}

-- ---- names

same_name : (one other : CallName) → one ≡ other → is_same_name one other ≡ true
same_name one other is = subst (λ (n : CallName). is_same_name one n ≡ true) is
    (and_from (is_one_session one one) _ (and_from (nat_eq one.conn one.conn) _ (eq-eqb one.conn one.conn refl) (eq-eqb one.session one.session refl))
    (and_from (nat_eq one.index one.index) _ (eq-eqb one.index one.index refl) (eq-eqb one.part one.part refl)))

-- no call is surely before one of its own name
pub not_itself : {A : Type 0} (x y : Observed) → x.name ≡ y.name → is_surely_before x y ≡ true → A
not_itself x y same before =
    let apart : not (is_same_name x.name y.name) ≡ true = (and_parts (not (is_same_name x.name y.name)) _ before).0 in
    both_so (not (is_same_name x.name y.name)) (ap not (same_name x.name y.name same)) apart

-- ---- places

-- a call that is there is in the front, is this step, or is in the back
pub located : (x : Observed) (front : List KeyStep) (name : CallName) (call : Call) (said : Said) (after : Option Item) (back : List KeyStep)
    → Occurs x (front ++ made name call said after ∷ back) → Occurs x front ⊎ (IsStepOf x name call said ⊎ Occurs x back)
located x [] name call said after back occurs = inr occurs
located x (lost ∷ front) name call said after back occurs = located x front name call said after back occurs
located x (made n c s a ∷ front) name call said after back (inl here) = inl (inl here)
located x (made n c s a ∷ front) name call said after back (inr more) = go (located x front name call said after back more)
  where
    go : Occurs x front ⊎ (IsStepOf x name call said ⊎ Occurs x back) → Occurs x (made n c s a ∷ front) ⊎ (IsStepOf x name call said ⊎ Occurs x back)
    go (inl there) = inl (inr there)
    go (inr other) = inr other

-- what is at a place of observed steps is one of the calls
pub observed_at : (calls : List Observed) (front : List KeyStep) (name : CallName) (call : Call) (said : Said) (after : Option Item) (back : List KeyStep)
    → AreObserved calls (front ++ made name call said after ∷ back) → IsOneOf calls name call said
observed_at calls [] name call said after back are = are.0
observed_at calls (lost ∷ front) name call said after back are = observed_at calls front name call said after back are
observed_at calls (made n c s a ∷ front) name call said after back are = observed_at calls front name call said after back are.1

module _ (calls : List Observed) where
  -- a later call is not surely before
  later_not : {A : Type 0} (name : CallName) (y : Observed) (j : ℕ) → slice_get calls j ≡ Some y → name ≡ y.name → (steps : List KeyStep) → AreLater calls name steps
      → (x : Observed) (i : ℕ) → slice_get calls i ≡ Some x → Occurs x steps → is_surely_before x y ≡ true → A
  later_not name y j is named [] later x i at occurs before = absurd occurs
  later_not name y j is named (lost ∷ steps) later x i at occurs before = later_not name y j is named steps later x i at occurs before
  later_not name y j is named (made n c s a ∷ steps) later x i at (inl here) before = both_so (is_surely_before x y) (later.0.order i j x y at is here.named named) before
  later_not name y j is named (made n c s a ∷ steps) later x i at (inr more) before = later_not name y j is named steps later.1 x i at more before

  -- what is behind a step comes later
  pub behind : (front : List KeyStep) (name : CallName) (call : Call) (said : Said) (after : Option Item) (back : List KeyStep) → KeepOrder calls (front ++ made name call said after ∷ back) → AreLater calls name back
  behind [] name call said after back order = order.0
  behind (lost ∷ front) name call said after back order = behind front name call said after back order
  behind (made n c s a ∷ front) name call said after back order = behind front name call said after back order.1

  -- a step that comes later is a later step
  later_at : (name : CallName) (front : List KeyStep) (own : CallName) (call : Call) (said : Said) (after : Option Item) (back : List KeyStep) → AreLater calls name (front ++ made own call said after ∷ back) → IsLaterStep calls name own
  later_at name [] own call said after back later = later.0
  later_at name (lost ∷ front) own call said after back later = later_at name front own call said after back later
  later_at name (made n c s a ∷ front) own call said after back later = later_at name front own call said after back later.1

  -- a step is later than each call in front of it
  pub ahead : (x : Observed) (front : List KeyStep) (name : CallName) (call : Call) (said : Said) (after : Option Item) (back : List KeyStep) → KeepOrder calls (front ++ made name call said after ∷ back)
      → Occurs x front → IsLaterStep calls x.name name
  ahead x [] name call said after back order occurs = absurd occurs
  ahead x (lost ∷ front) name call said after back order occurs = ahead x front name call said after back order occurs
  ahead x (made n c s a ∷ front) name call said after back order (inl here) =
      subst (λ (own : CallName). IsLaterStep calls own name) here.named (later_at n front name call said after back order.0)
  ahead x (made n c s a ∷ front) name call said after back order (inr more) = ahead x front name call said after back order.1 more

  -- a call that is surely before the call of a step is in front of it
  pub sooner : (x y : Observed) (i j : ℕ) → slice_get calls i ≡ Some x → slice_get calls j ≡ Some y → (front : List KeyStep) (name : CallName) (call : Call) (said : Said) (after : Option Item) (back : List KeyStep)
      → KeepOrder calls (front ++ made name call said after ∷ back) → IsStepOf y name call said → is_surely_before x y ≡ true → Occurs x (front ++ made name call said after ∷ back) → Occurs x front
  sooner x y i j at is front name call said after back order step before occurs = go (located x front name call said after back occurs)
    where
      go : Occurs x front ⊎ (IsStepOf x name call said ⊎ Occurs x back) → Occurs x front
      go (inl there) = there
      go (inr (inl here)) = not_itself x y (sym here.named ∙ step.named) before
      go (inr (inr later)) = later_not name y j is step.named back (behind front name call said after back order) x i at later before

  -- a call that is surely after the call of a step is not in front of it
  pub not_ahead : {A : Type 0} (x y : Observed) (i j : ℕ) → slice_get calls i ≡ Some x → slice_get calls j ≡ Some y → (front : List KeyStep) (name : CallName) (call : Call) (said : Said) (after : Option Item) (back : List KeyStep)
      → KeepOrder calls (front ++ made name call said after ∷ back) → IsStepOf y name call said → Occurs x front → is_surely_before y x ≡ true → A
  not_ahead x y i j at is front name call said after back order step occurs before =
      both_so (is_surely_before y x) ((ahead x front name call said after back order occurs).order j i y x is at step.named refl) before

-- ---- parts of a chain

pub allowed_front : (forget : Bool) (first before : Option Item) (front back : List KeyStep) → AreAllowed forget first before (front ++ back) → AreAllowed forget first before front
allowed_front forget first before [] back allowed = tt
allowed_front forget first before (lost ∷ front) back allowed = (allowed.0, allowed_front forget None None front back allowed.1)
allowed_front forget first before (made n c s a ∷ front) back allowed = (allowed.0, allowed_front forget first a front back allowed.1)

pub allowed_at : (forget : Bool) (first before : Option Item) (front : List KeyStep) (name : CallName) (call : Call) (said : Said) (after : Option Item) (back : List KeyStep)
    → AreAllowed forget first before (front ++ made name call said after ∷ back) → Allows (item_after before front) call said after
allowed_at forget first before [] name call said after back allowed = allowed.0
allowed_at forget first before (lost ∷ front) name call said after back allowed = allowed_at forget None None front name call said after back allowed.1
allowed_at forget first before (made n c s a ∷ front) name call said after back allowed = allowed_at forget first a front name call said after back allowed.1

-- where a fact holds after each step, no call left what excludes it; the item that was first may have changed on the way
pub clash : {A : Type 0} (forget : Bool) (first before : Option Item) (front : List KeyStep) (fact : Fact) (b : Observed) → AreAllowed forget first before front → HoldsAfterEach fact front
    → may_hold_beside (left_by b.call b.shown) fact ≡ false → Occurs b front → A
clash forget first before [] fact b allowed stays leaves occurs = absurd occurs
clash forget first before (lost ∷ front) fact b allowed stays leaves occurs = clash forget None None front fact b allowed.1 stays.1 leaves occurs
clash forget first before (made n c s a ∷ front) fact b allowed stays leaves (inl here) =
    both_so (may_hold_beside (left_by b.call b.shown) fact) leaves
    (not_excluded before b.call s a b.shown fact (subst (λ (x : Call). Allows before x s a) here.called allowed.0) here.suits stays.0)
clash forget first before (made n c s a ∷ front) fact b allowed stays leaves (inr more) = clash forget first a front fact b allowed.1 stays.1 leaves more

-- the same behind a step
pub clash_after : {A : Type 0} (forget : Bool) (first before : Option Item) (front : List KeyStep) (name : CallName) (call : Call) (said : Said) (after : Option Item) (back : List KeyStep) (fact : Fact) (b : Observed)
    → AreAllowed forget first before (front ++ made name call said after ∷ back) → HoldsAfterEach fact back → may_hold_beside (left_by b.call b.shown) fact ≡ false → Occurs b back → A
clash_after forget first before [] name call said after back fact b allowed stays leaves occurs = clash forget first after back fact b allowed.1 stays leaves occurs
clash_after forget first before (lost ∷ front) name call said after back fact b allowed stays leaves occurs = clash_after forget None None front name call said after back fact b allowed.1 stays leaves occurs
clash_after forget first before (made n c s a ∷ front) name call said after back fact b allowed stays leaves occurs = clash_after forget first a front name call said after back fact b allowed.1 stays leaves occurs

-- ---- calls by their places in the list

pub at_place : (calls : List Observed) (at : ℕ) (x : Observed) → at < length calls → x ≡ slice_index_or calls at x → slice_get calls at ≡ Some x
at_place calls at x within is = slice_get-get_or calls at x within ∙ ap Some (sym is)

pub breaker_at : (calls : List Observed) (fact : Fact) (reader : Observed) (at : ℕ) (x : Observed) → at < length calls → x ≡ slice_index_or calls at x → IsBreaker fact reader x → IsBreakerIn calls fact reader x
breaker_at calls fact reader at x within is breaks = record { at = at; is = at_place calls at x within is; breaks = breaks }

pub undone_at : (calls : List Observed) (fact : Fact) (call reader : Observed) (at : ℕ) (x : Observed) → at < length calls → x ≡ slice_index_or calls at x → IsBreaker fact reader x → is_surely_before call x ≡ true → IsUndone calls fact call reader
undone_at calls fact call reader at x within is breaks later = record { b = x; breaker = breaker_at calls fact reader at x within is breaks; later = later }
