-- A need without a source is never met.
use Rattle.std.specs.Prelude.{Option, Some, Result, Ok, Err, IfOk, IsTrue}
use Rattle.std.proofs.Common.{◌≡◌, ◌⊎◌, inl, inr, ℕ, ◌+◌, ◌<◌, Bool, true, false, List, [], ◌∷◌, ◌++◌, length, slice_index_or, arith, refl, sym, ap, ◌∙◌, subst}
use Rattle.std.specs.List.{slice_get}
use Rattle.std.proofs.lemmas.List.{append_assoc, append_cancel_left, append_cancel_right}
use Rattle.std.proofs.lemmas.Option.{slice_get_within, same_Some}
use mathlib.Core.Logic.{dite}
use native.Mathlib.Decide.{dec_lt}
use Rattle.mc_calls.specs.declared.item.Item.{Item}
use Rattle.mc_calls.specs.declared.call.Call.{Call}
use Rattle.mc_calls.specs.declared.call.Call.TheVariants as Calls
use Rattle.mc_allows.specs.declared.call_name.CallName.{CallName}
use Rattle.mc_allows.specs.declared.said.Said.{Said}
use Rattle.mc_allows.specs.declared.fact.Fact.{Fact}
use Rattle.mc_allows.specs.Allows.{Allows}
use Rattle.mc_allows.specs.Steps.{KeyStep, made, lost, AreAllowed, item_after}
use Rattle.mc_allows.specs.Facts.{holds_without, holds}
use Rattle.mc_allows.specs.Needs.{need_of}
use Rattle.mc_allows.specs.Makers.{is_need, may_make}
use Rattle.mc_allows.specs.Turns.{HoldsAfterEach, IsSafe, LastTurn, with_value, SaysValue}
use Rattle.mc_allows.proofs.NeedLemmas.{shown_needs}
use Rattle.mc_allows.proofs.MakeLemmas.{both_so, turned_made}
use Rattle.mc_allows.proofs.JoinLemmas.{appends_to_rest, prepends_to_rest}
use Rattle.mc_allows.proofs.TurnLemmas.{has_last_turn}
use Rattle.zy_refute.specs.declared.observed.Observed.{Observed}
use Rattle.zy_refute.specs.declared.store.Store.{Store}
use Rattle.zy_refute.specs.Observed.{is_surely_before}
use Rattle.zy_refute.specs.Courses.{IsStepOf, Occurs, IsOneOf, IsOrderOf, HaveNoOrder, IsNeverMet}
use Rattle.zy_refute.specs.Unmet.{IsRest, IsNoSource, IsNoMaker, IsNoMakerAt, IsLossless, IsNoStart, AreNoSources}
use Rattle.zy_refute.proofs.PlaceLemmas.{located, observed_at, ahead, sooner, not_ahead, not_itself, allowed_front, allowed_at, clash, clash_after, at_place}

-- ---- joins

-- a call that made a fact by a join joined its piece to the rest of it
joined_rest : (fact : Fact) (call : Call) (value rest : List ℕ) → SaysValue fact value → IsRest call value rest → (before : Option Item) (said : Said) (after : Option Item) → Allows before call said after
    → holds fact before ≡ false → holds fact after ≡ true → holds (with_value fact rest) before ≡ true
joined_rest fact (Calls.Append key piece) value rest says joins before said after allowed fails held =
    let own = appends_to_rest fact value says before key piece said after allowed fails held in
    subst (λ r. holds (with_value fact r) before ≡ true) (append_cancel_right own.0 rest piece (sym own.1 ∙ joins)) own.2
joined_rest fact (Calls.Prepend key piece) value rest says joins before said after allowed fails held =
    let own = prepends_to_rest fact value says before key piece said after allowed fails held in
    subst (λ r. holds (with_value fact r) before ≡ true) (append_cancel_left piece own.0 rest (sym own.1 ∙ joins)) own.2
joined_rest fact call value rest says joins before said after allowed fails held = absurd joins

-- ---- the rule

pub occurs_at : (x : Observed) (front : List KeyStep) (name : CallName) (call : Call) (said : Said) (after : Option Item) (back : List KeyStep) → IsStepOf x name call said → Occurs x (front ++ made name call said after ∷ back)
occurs_at x [] name call said after back step = inl step
occurs_at x (lost ∷ front) name call said after back step = occurs_at x front name call said after back step
occurs_at x (made n c s a ∷ front) name call said after back step = inr (occurs_at x front name call said after back step)

module _ (store : Store) (calls : List Observed) (fact : Fact) (reader : ℕ) (g : Observed) (is : slice_get calls reader ≡ Some g) (need : is_need fact ≡ true) (kept : IsLossless store fact) where
  module _ (first : Option Item) (front : List KeyStep) (name : CallName) (call : Call) (said : Said) (after : Option Item) (back : List KeyStep)
      (order : IsOrderOf store calls first (front ++ made name call said after ∷ back)) (step : IsStepOf g name call said) where
    pub allowed : AreAllowed store.forget first first front
    allowed = allowed_front store.forget first first front (made name call said after ∷ back) order.chain.allowed

    -- a sure call that is surely before the reader is in front of it
    in_front : (at : ℕ) (b : Observed) → slice_get calls at ≡ Some b → b.sure ≡ true → is_surely_before b g ≡ true → Occurs b front
    in_front at b there sure before = sooner calls b g at reader there is front name call said after back order.order step before (order.sure at b there sure)

    -- what held from the first was excluded
    pub from_start : IsNoStart store calls fact g → holds fact first ≡ true → HoldsAfterEach fact front → ⊥
    from_start (inl cold) held stays = both_so (holds_without fact) cold.1 (subst (λ f. holds fact f ≡ true) (order.cold cold.0) held)
    from_start (inr b) held stays = clash store.forget first first front fact b.b allowed stays b.breaker.breaks.leaves (in_front b.breaker.at b.b b.breaker.is b.breaker.breaks.sure b.breaker.breaks.sooner)

    -- the steps, as the turn divides them
    module _ (turn : LastTurn first fact front) where
      abbrev behind_turn : List KeyStep
      behind_turn = turn.back ++ made name call said after ∷ back

      whole : front ++ made name call said after ∷ back ≡ turn.front ++ made turn.name turn.call turn.said turn.after ∷ behind_turn
      whole = ap (λ (l : List KeyStep). l ++ made name call said after ∷ back) turn.is ∙ append_assoc turn.front (made turn.name turn.call turn.said turn.after ∷ turn.back) (made name call said after ∷ back)

      pub divided : IsOrderOf store calls first (turn.front ++ made turn.name turn.call turn.said turn.after ∷ behind_turn)
      divided = subst (IsOrderOf store calls first) whole order

      maker_in_front : (x : Observed) → IsStepOf x turn.name turn.call turn.said → Occurs x front
      maker_in_front x own = subst (Occurs x) (sym turn.is) (occurs_at x turn.front turn.name turn.call turn.said turn.after turn.back own)

      pub by_source : (at : ℕ) (x : Observed) → slice_get calls at ≡ Some x → IsStepOf x turn.name turn.call turn.said → (at ≡ reader) ⊎ IsNoSource store calls fact at x g → ⊥
      by_source at x there own (inl same) =
          (ahead calls x front name call said after back order.order (maker_in_front x own)).other (step.named ∙ ap (λ (o : Observed). o.name) (one g x (sym is ∙ ap (slice_get calls) (sym same) ∙ there)))
        where
          one : (a b : Observed) → Some a ≡ Some b → a ≡ b
          one a b e = cc
      by_source at x there own (inr (inl later)) = not_ahead calls x g at reader there is front name call said after back order.order step (maker_in_front x own) later
      by_source at x there own (inr (inr (inl undone))) = by_place (located b turn.front turn.name turn.call turn.said turn.after turn.back (subst (Occurs b) turn.is (in_front undone.breaker.at b undone.breaker.is undone.breaker.breaks.sure undone.breaker.breaks.sooner)))
        where
          b : Observed
          b = undone.b

          by_place : Occurs b turn.front ⊎ (IsStepOf b turn.name turn.call turn.said ⊎ Occurs b turn.back) → ⊥
          by_place (inl early) = not_ahead calls b x undone.breaker.at at undone.breaker.is there turn.front turn.name turn.call turn.said turn.after behind_turn divided.order own early undone.later
          by_place (inr (inl here)) = not_itself x b (sym own.named ∙ here.named) undone.later
          by_place (inr (inr late)) =
              clash_after store.forget first first turn.front turn.name turn.call turn.said turn.after turn.back fact b (subst (AreAllowed store.forget first first) turn.is allowed) turn.stays.1 undone.breaker.breaks.leaves late
      by_source at x there own (inr (inr (inr none))) =
          none.never x there first turn.front turn.name turn.call turn.said turn.after behind_turn divided own
          (joined_rest fact turn.call none.value none.rest none.says (subst (λ (c : Call). IsRest c none.value none.rest) (sym own.called) none.joins) (item_after first turn.front) turn.said turn.after turn.allowed turn.failed turn.stays.0)

pub never_met : (store : Store) (calls : List Observed) (fact : Fact) (reader : ℕ) (g : Observed) → slice_get calls reader ≡ Some g → is_need fact ≡ true → IsLossless store fact → IsNoStart store calls fact g
    → AreNoSources store calls fact reader (length calls) → IsNeverMet store calls fact reader
never_met store calls fact reader g is need kept start none x there first front name call said after back order step held =
    by_turn (has_last_turn store.forget first first fact safe front (allowed store calls fact reader g is need kept first front name call said after back order own) held)
  where
    one : (a b : Observed) → Some a ≡ Some b → a ≡ b
    one a b e = cc

    own : IsStepOf g name call said
    own = subst (λ (o : Observed). IsStepOf o name call said) (one x g (sym there ∙ is)) step

    safe : IsSafe store.forget first fact
    safe without = ((kept without).0, order.cold (kept without).1)

    maker : (turn : LastTurn first fact front) → IsOneOf calls turn.name turn.call turn.said
    maker turn = observed_at calls turn.front turn.name turn.call turn.said turn.after _ (divided store calls fact reader g is need kept first front name call said after back order own turn).observed

    by_maker : (turn : LastTurn first fact front) → IsOneOf calls turn.name turn.call turn.said → ⊥
    by_maker turn m =
        by_source store calls fact reader g is need kept first front name call said after back order own turn m.at m.x m.is m.step
        (none m.at (slice_get_within calls m.at m.x m.is) m.x g m.is is
        (subst (λ (c : Call). may_make c m.x.shown fact ≡ true) m.step.called
        (turned_made fact need (item_after first turn.front) turn.call turn.said turn.after m.x.shown turn.allowed m.step.suits turn.failed turn.stays.0)))

    by_turn : ((holds fact first ≡ true) × HoldsAfterEach fact front) ⊎ LastTurn first fact front → ⊥
    by_turn (inl all) = from_start store calls fact reader g is need kept first front name call said after back order own start all.0 all.1
    by_turn (inr turn) = by_maker turn (maker turn)

-- ---- calls by their places in the list

same_call : (calls : List Observed) (at : ℕ) (x y : Observed) → at < length calls → x ≡ slice_index_or calls at x → slice_get calls at ≡ Some y → x ≡ y
same_call calls at x y within is there = same_Some x y (sym (at_place calls at x within is) ∙ there)

-- one call more is no source
pub passed_on : (store : Store) (calls : List Observed) (fact : Fact) (reader end : ℕ) → AreNoSources store calls fact reader end → IsNoMakerAt store calls fact end reader → AreNoSources store calls fact reader (end + 1)
passed_on store calls fact reader end before here at below =
    dite (dec_lt at end) (λ low. before at low) (λ high. let same : at ≡ end = omega (arith, below, high) in subst (λ n. IsNoMakerAt store calls fact n reader) (sym same) here)

-- the call at a place is no source, if it is this call
pub passed_at : {E : Type 0} (r : Result Bool E) (store : Store) (calls : List Observed) (fact : Fact) (at reader : ℕ) (x g : Observed) → at < length calls → x ≡ slice_index_or calls at x → slice_get calls reader ≡ Some g
    → IfOk r (λ is. IsTrue is → IsNoMaker store calls fact at x reader g) → IfOk r (λ is. IsTrue is → IsNoMakerAt store calls fact at reader)
passed_at (Ok b) store calls fact at reader x g within is read none = λ yes y h there reads.
    subst (λ (o : Observed). IsNoMaker store calls fact at o reader h) (same_call calls at x y within is there)
    (subst (λ (o : Observed). IsNoMaker store calls fact at x reader o) (same_Some g h (sym read ∙ reads)) (none yes))
passed_at (Err e) store calls fact at reader x g within is read none = tt

-- what is no source is no maker that is one
pub no_maker : {E : Type 0} (r : Result Bool E) (store : Store) (calls : List Observed) (fact : Fact) (at reader : ℕ) (x g : Observed) → IfOk r (λ is. IsTrue is → IsNoSource store calls fact at x g)
    → IfOk r (λ is. IsTrue is → IsNoMaker store calls fact at x reader g)
no_maker (Ok b) store calls fact at reader x g none = λ yes may. inr (none yes)
no_maker (Err e) store calls fact at reader x g none = tt

-- a need whose sources are none is never met
pub unmet_at : {E : Type 0} (r : Result Bool E) (store : Store) (calls : List Observed) (fact : Fact) (reader : ℕ) (g : Observed) → reader < length calls → g ≡ slice_index_or calls reader g → is_need fact ≡ true → IsLossless store fact
    → IsNoStart store calls fact g → IfOk r (λ none. IsTrue none → AreNoSources store calls fact reader (length calls)) → IfOk r (λ none. IsTrue none → IsNeverMet store calls fact reader)
unmet_at (Ok b) store calls fact reader g within is need kept start none = λ yes. never_met store calls fact reader g (at_place calls reader g within is) need kept start (none yes)
unmet_at (Err e) store calls fact reader g within is need kept start none = tt

-- ---- no order

-- the steps up to a call, that call, and the steps behind it
record Divides (x : Observed) (steps : List KeyStep) : Type 0 where
  front : List KeyStep
  name : CallName
  call : Call
  said : Said
  after : Option Item
  back : List KeyStep
  is : steps ≡ front ++ made name call said after ∷ back
  step : IsStepOf x name call said

divides : (x : Observed) (steps : List KeyStep) → Occurs x steps → Divides x steps
divides x [] occurs = absurd occurs
divides x (lost ∷ steps) occurs = go (divides x steps occurs)
  where
    go : Divides x steps → Divides x (lost ∷ steps)
    go d = record { front = lost ∷ d.front; name = d.name; call = d.call; said = d.said; after = d.after; back = d.back; is = ap (λ rest. lost ∷ rest) d.is; step = d.step }
divides x (made n c s a ∷ steps) (inl here) = record { front = []; name = n; call = c; said = s; after = a; back = steps; is = refl; step = here }
divides x (made n c s a ∷ steps) (inr more) = go (divides x steps more)
  where
    go : Divides x steps → Divides x (made n c s a ∷ steps)
    go d = record { front = made n c s a ∷ d.front; name = d.name; call = d.call; said = d.said; after = d.after; back = d.back; is = ap (λ rest. made n c s a ∷ rest) d.is; step = d.step }

pub none_in_order : (store : Store) (calls : List Observed) (reader : ℕ) (g : Observed) → slice_get calls reader ≡ Some g → g.sure ≡ true → IsNeverMet store calls (need_of g.call g.shown) reader → HaveNoOrder store calls
none_in_order store calls reader g is sure never first steps order = by_place (divides g steps (order.sure reader g is sure))
  where
    by_place : Divides g steps → ⊥
    by_place d =
        let own = subst (IsOrderOf store calls first) d.is order in
        never g is first d.front d.name d.call d.said d.after d.back own d.step
        (subst (λ (c : Call). holds (need_of c g.shown) (item_after first d.front) ≡ true) d.step.called
        (shown_needs (item_after first d.front) d.call d.said d.after g.shown (allowed_at store.forget first first d.front d.name d.call d.said d.after d.back own.chain.allowed) d.step.suits))

-- the calls have no order if a need of a sure call is never met
pub unmet_here : {E : Type 0} (r : Result Bool E) (store : Store) (calls : List Observed) (reader : ℕ) (g : Observed) (fact : Fact) → reader < length calls → g ≡ slice_index_or calls reader g → g.sure ≡ true → fact ≡ need_of g.call g.shown
    → IfOk r (λ none. IsTrue none → IsNeverMet store calls fact reader) → IfOk r (λ none. IsTrue none → HaveNoOrder store calls)
unmet_here (Ok b) store calls reader g fact within is sure need none =
    λ yes. none_in_order store calls reader g (at_place calls reader g within is) sure (subst (λ f. IsNeverMet store calls f reader) need (none yes))
unmet_here (Err e) store calls reader g fact within is sure need none = tt
