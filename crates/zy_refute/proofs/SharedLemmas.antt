-- Calls that need one fact and take it away have different sources.
use Rattle.std.specs.Prelude.{Option, None, Some, nat_eq}
use Rattle.std.proofs.Common.{◌≡◌, ◌⊎◌, inl, inr, ℕ, suc, ◌+◌, ◌<◌, ◌≤◌, ◌||◌, ◌&&◌, Bool, true, false, cond, List, [], ◌∷◌, ◌++◌, length, filter, get_or, All, AllPairs, Contains, arith, refl, sym, ap, ◌∙◌, subst}
use Rattle.std.specs.List.{slice_get, list_any, IsDistinct}
use Rattle.std.specs.Set.{is_member}
use Rattle.std.specs.Cmp.{nat_eq_equiv, unsigned_Decides}
use Rattle.std.proofs.lemmas.Bool.{eqb-true, eq-eqb, cases_Bool, or_cases, or_left, or_right, and_from, and_parts, cases_order}
use Rattle.std.proofs.lemmas.List.{append_assoc}
use Rattle.std.proofs.lemmas.List.Elements.{All-nil, All-cons, All-head, All-tail}
use Rattle.std.proofs.lemmas.List.Kept.{AllPairs-cons, AllPairs-filter}
use Rattle.std.proofs.lemmas.Map.Made.{length-le_from_is_member, is_member-filter, is_member-Decides, IsDistinct-from_AllPairs}
use Rattle.std.proofs.lemmas.Option.{slice_get_within, slice_get-get_or, same_Some}
use Rattle.mc_calls.specs.declared.item.Item.{Item}
use Rattle.mc_calls.specs.declared.call.Call.{Call}
use Rattle.mc_allows.specs.declared.call_name.CallName.{CallName}
use Rattle.mc_allows.specs.declared.said.Said.{Said}
use Rattle.mc_allows.specs.declared.fact.Fact.{Fact}
use Rattle.mc_allows.specs.Allows.{Allows}
use Rattle.mc_allows.specs.Steps.{KeyStep, made, lost, AreAllowed, item_after}
use Rattle.mc_allows.specs.Facts.{holds, holds_without, may_hold_beside}
use Rattle.mc_allows.specs.Needs.{need_of, left_by}
use Rattle.mc_allows.specs.Makers.{is_need, may_make}
use Rattle.mc_allows.specs.Turns.{HoldsAfterEach, IsSafe, LastTurn}
use Rattle.mc_allows.proofs.NeedLemmas.{shown_needs}
use Rattle.mc_allows.proofs.MakeLemmas.{turned_made}
use Rattle.mc_allows.proofs.TurnLemmas.{has_last_turn}
use Rattle.zy_refute.specs.declared.observed.Observed.{Observed}
use Rattle.zy_refute.specs.declared.store.Store.{Store}
use Rattle.zy_refute.specs.Courses.{IsStepOf, Occurs, IsOneOf, AreObserved, AreLater, KeepOrder, IsOrderOf, HaveNoOrder}
use Rattle.zy_refute.specs.Unmet.{IsNoMakerAt, IsLossless}
use Rattle.zy_refute.specs.Shared.{Differ, HaveOtherNames, TakesAway, IsTaker, IsNoMakerFor, AreSources, IsNoStartAt, one_if, AreShared}
use Rattle.zy_refute.proofs.PlaceLemmas.{observed_at, allowed_at, clash}
use Rattle.zy_refute.proofs.UnmetLemmas.{occurs_at, allowed, divided, from_start, by_source}

-- ---- numbers in a list

-- the number is in the list
abbrev is_in : List ℕ → ℕ → Bool
is_in xs n = is_member nat_eq xs n

at_in : (P : ℕ → Type 0) (xs : List ℕ) (n : ℕ) → All P xs → is_in xs n ≡ true → P n
at_in P [] n all there = absurd (cc)
at_in P (x ∷ xs) n all there = go (at_in P xs n (All-tail P x xs all)) (or_cases (nat_eq n x) (is_in xs n) there)
  where
    go : (is_in xs n ≡ true → P n) → (nat_eq n x ≡ true) ⊎ (is_in xs n ≡ true) → P n
    go rest (inl same) = subst P (sym (eqb-true n x same)) (All-head P x xs all)
    go rest (inr more) = rest more

kept_long : (t : Bool) (x : ℕ) (xs : List ℕ) → t ≡ true → length (cond t (x ∷ xs) xs) ≡ length xs + 1
kept_long true x xs is = omega arith
kept_long false x xs is = absurd (cc)

left_long : (t : Bool) (x : ℕ) (xs : List ℕ) → t ≡ false → length (cond t (x ∷ xs) xs) ≡ length xs
left_long true x xs is = absurd (cc)
left_long false x xs is = refl

as_long : (t : Bool) (x : ℕ) (xs : List ℕ) → length xs ≤ length (cond t (x ∷ xs) xs)
as_long true x xs = omega arith
as_long false x xs = omega arith

-- different numbers that are in another list are no more than those of that list
few : (xs ys : List ℕ) → AllPairs Differ xs → ((n : ℕ) → is_in xs n ≡ true → is_in ys n ≡ true) → length xs ≤ length ys
few xs ys apart each = length-le_from_is_member nat_eq_equiv xs ys (IsDistinct-from_AllPairs unsigned_Decides xs apart) each

same_test : (test : ℕ → Bool) (q x : ℕ) → nat_eq q x ≡ true → test q ≡ test x
same_test test q x same = ap test (eqb-true q x same)

in_kept : (test : ℕ → Bool) (xs : List ℕ) (n : ℕ) → is_in (filter test xs) n ≡ (is_in xs n && test n)
in_kept test xs n = is_member-filter nat_eq_equiv test n (same_test test n) xs

-- ---- the last step of a list

-- the step is the last one, or the part of the list that it begins has that one at its end
abbrev Ended : List KeyStep → KeyStep → List KeyStep → KeyStep → List KeyStep → Type 0
Ended front final one step back = ((final ≡ step) × ([] ≡ back)) ⊎ ((rest : List KeyStep) × (back ≡ rest ++ final ∷ []) × (front ≡ one ++ step ∷ rest))

ended : (front : List KeyStep) (final : KeyStep) (one : List KeyStep) (step : KeyStep) (back : List KeyStep) → front ++ final ∷ [] ≡ one ++ step ∷ back → Ended front final one step back
ended [] final [] step back is = inl (cc, cc)
ended [] final (x ∷ []) step back is = absurd (cc)
ended [] final (x ∷ y ∷ one) step back is = absurd (cc)
ended (f ∷ front) final [] step back is =
    let head : f ≡ step = cc in
    let tail : front ++ final ∷ [] ≡ back = cc in
    inr (front, sym tail, ap (λ s. s ∷ front) head)
ended (f ∷ front) final (x ∷ one) step back is =
    let head : f ≡ x = cc in
    let tail : front ++ final ∷ [] ≡ one ++ step ∷ back = cc in
    go head (ended front final one step back tail)
  where
    go : f ≡ x → Ended front final one step back → Ended (f ∷ front) final (x ∷ one) step back
    go head (inl here) = inl here
    go head (inr more) = inr (more.0, more.1, ap (λ s. s ∷ front) head ∙ ap (λ l. x ∷ l) more.2)

occurs_more : (x : Observed) (front back : List KeyStep) → Occurs x front → Occurs x (front ++ back)
occurs_more x [] back occurs = absurd occurs
occurs_more x (lost ∷ front) back occurs = occurs_more x front back occurs
occurs_more x (made n c s a ∷ front) back (inl here) = inl here
occurs_more x (made n c s a ∷ front) back (inr more) = inr (occurs_more x front back more)

occurs_behind : (x : Observed) (front back : List KeyStep) → Occurs x back → Occurs x (front ++ back)
occurs_behind x [] back occurs = occurs
occurs_behind x (lost ∷ front) back occurs = occurs_behind x front back occurs
occurs_behind x (made n c s a ∷ front) back occurs = inr (occurs_behind x front back occurs)

-- a call that is the last step is in each part that a step begins
occurs_last : (x : Observed) (front : List KeyStep) (final : KeyStep) (one : List KeyStep) (step : KeyStep) (back : List KeyStep) → front ++ final ∷ [] ≡ one ++ step ∷ back → Occurs x (final ∷ []) → Occurs x (step ∷ back)
occurs_last x front final one step back is occurs = go (ended front final one step back is)
  where
    go : Ended front final one step back → Occurs x (step ∷ back)
    go (inl here) = subst (λ (l : List KeyStep). Occurs x (step ∷ l)) here.1 (subst (λ (s : KeyStep). Occurs x (s ∷ [])) here.0 occurs)
    go (inr more) = subst (λ (l : List KeyStep). Occurs x (step ∷ l)) (sym more.1) (occurs_behind x (step ∷ more.0) (final ∷ []) occurs)

-- where a fact holds after each step of a part, no call in it left what excludes the fact
clash_behind : {A : Type 0} (forget : Bool) (first before : Option Item) (front back : List KeyStep) (fact : Fact) (x : Observed) → AreAllowed forget first before (front ++ back) → HoldsAfterEach fact back
    → may_hold_beside (left_by x.call x.shown) fact ≡ false → Occurs x back → A
clash_behind forget first before [] back fact x allowed stays leaves occurs = clash forget first before back fact x allowed stays leaves occurs
clash_behind forget first before (lost ∷ front) back fact x allowed stays leaves occurs = clash_behind forget None None front back fact x allowed.1 stays leaves occurs
clash_behind forget first before (made n c s a ∷ front) back fact x allowed stays leaves occurs = clash_behind forget first a front back fact x allowed.1 stays leaves occurs

-- ---- places of steps

-- the places of the calls that the steps are
abbrev places_of : (calls : List Observed) (steps : List KeyStep) → AreObserved calls steps → List ℕ
places_of calls [] are = []
places_of calls (lost ∷ steps) are = places_of calls steps are
places_of calls (made n c s a ∷ steps) are = are.0.at ∷ places_of calls steps are.1

module _ (calls : List Observed) (once : AllPairs HaveOtherNames calls) where
  not_before : (i j : ℕ) (x y : Observed) → slice_get calls i ≡ Some x → slice_get calls j ≡ Some y → x.name ≡ y.name → i < j → ⊥
  not_before i j x y at_i at_j same low =
      let high = slice_get_within calls j y at_j in
      let within : i < length calls = omega (arith, low, high) in
      let first = same_Some x (get_or calls i x) (sym at_i ∙ slice_get-get_or calls i x within) in
      let second = same_Some y (get_or calls j x) (sym at_j ∙ slice_get-get_or calls j x high) in
      once i j x low high (ap (λ (o : Observed). o.name) (sym first) ∙ same ∙ ap (λ (o : Observed). o.name) second)

  -- calls of one name are at one place
  one_place : (i j : ℕ) (x y : Observed) → slice_get calls i ≡ Some x → slice_get calls j ≡ Some y → x.name ≡ y.name → i ≡ j
  one_place i j x y at_i at_j same = go (cases_order i j)
    where
      go : (i ≡ j) ⊎ ((i < j) ⊎ (j < i)) → i ≡ j
      go (inl equal) = equal
      go (inr (inl low)) = absurd (not_before i j x y at_i at_j same low)
      go (inr (inr high)) = absurd (not_before j i y x at_j at_i (sym same) high)

  -- the steps after a call are at other places
  later_places : (at : ℕ) (x : Observed) → slice_get calls at ≡ Some x → (n : CallName) → n ≡ x.name → (steps : List KeyStep) (are : AreObserved calls steps) → AreLater calls n steps → All (Differ at) (places_of calls steps are)
  later_places at x is n named [] are later = All-nil (Differ at)
  later_places at x is n named (lost ∷ steps) are later = later_places at x is n named steps are later
  later_places at x is n named (made m c s a ∷ steps) are later =
      All-cons (Differ at) are.0.at (places_of calls steps are.1)
      (λ same. let one = same_Some x are.0.x (sym is ∙ ap (slice_get calls) same ∙ are.0.is) in
      later.0.other (are.0.step.named ∙ ap (λ (o : Observed). o.name) (sym one) ∙ sym named))
      (later_places at x is n named steps are.1 later.1)

  places_differ : (steps : List KeyStep) (are : AreObserved calls steps) → KeepOrder calls steps → AllPairs Differ (places_of calls steps are)
  places_differ [] are order = λ i j d before within. absurd (omega arith)
  places_differ (lost ∷ steps) are order = places_differ steps are order
  places_differ (made n c s a ∷ steps) are order =
      AllPairs-cons Differ are.0.at (places_of calls steps are.1) (later_places are.0.at are.0.x are.0.is n are.0.step.named steps are.1 order.0) (places_differ steps are.1 order.1)

  -- a call that occurs is at one of the places
  placed : (at : ℕ) (x : Observed) → slice_get calls at ≡ Some x → (steps : List KeyStep) (are : AreObserved calls steps) → Occurs x steps → is_in (places_of calls steps are) at ≡ true
  placed at x is [] are occurs = absurd occurs
  placed at x is (lost ∷ steps) are occurs = placed at x is steps are occurs
  placed at x is (made n c s a ∷ steps) are (inl here) =
      or_left (nat_eq at are.0.at) (is_in (places_of calls steps are.1) at)
      (eq-eqb at are.0.at (one_place at are.0.at x are.0.x is are.0.is (sym here.named ∙ are.0.step.named)))
  placed at x is (made n c s a ∷ steps) are (inr more) = or_right (nat_eq at are.0.at) (is_in (places_of calls steps are.1) at) (placed at x is steps are.1 more)

-- ---- sources of different readers differ

module _ (store : Store) (calls : List Observed) (fact : Fact) (readers sources : List ℕ) (start : Bool) (once : AllPairs HaveOtherNames calls) (need : is_need fact ≡ true) (kept : IsLossless store fact)
    (shared : AreShared store calls fact readers sources start) where
  -- one of the calls that take the fact away is among the steps
  record HasTaker (steps : List KeyStep) : Type 0 where
    x : Observed
    takes : TakesAway fact x
    occurs : Occurs x steps

  -- behind the start and each source in these steps there is such a call, so that no reader can come next
  record AreSpent (front : List KeyStep) : Type 0 where
    begins : start ≡ true → HasTaker front
    turns : (one : List KeyStep) (n : CallName) (c : Call) (s : Said) (a : Option Item) (back : List KeyStep) → front ≡ one ++ made n c s a ∷ back
        → (m : IsOneOf calls n c s) → is_in sources m.at ≡ true → HasTaker (made n c s a ∷ back)

  more_takers : (front : List KeyStep) (back : List KeyStep) → HasTaker front → HasTaker (front ++ back)
  more_takers front back t = record { x = t.x; takes = t.takes; occurs = occurs_more t.x front back t.occurs }

  -- ---- what can come next

  module _ (first : Option Item) (front : List KeyStep) (name : CallName) (call : Call) (said : Said) (after : Option Item) (back : List KeyStep)
      (order : IsOrderOf store calls first (front ++ made name call said after ∷ back))
      (reader : ℕ) (g : Observed) (is : slice_get calls reader ≡ Some g) (step : IsStepOf g name call said) (takes : TakesAway fact g) (there : is_in readers reader ≡ true) (spent : AreSpent front) where
    front_allowed : AreAllowed store.forget first first front
    front_allowed = allowed store calls fact reader g is need kept first front name call said after back order step

    held : holds fact (item_after first front) ≡ true
    held =
        let own = shown_needs (item_after first front) call said after g.shown (allowed_at store.forget first first front name call said after back order.chain.allowed) step.suits in
        subst (λ (f : Fact). holds f (item_after first front) ≡ true) takes.needs
        (subst (λ (c : Call). holds (need_of c g.shown) (item_after first front) ≡ true) step.called own)

    safe : IsSafe store.forget first fact
    safe without = ((kept without).0, order.cold (kept without).1)

    from_first : (b : Bool) → start ≡ b → holds fact first ≡ true → HoldsAfterEach fact front → ⊥
    from_first true is_start held_first stays =
        let t = spent.begins is_start in
        clash store.forget first first front fact t.x front_allowed stays t.takes.leaves t.occurs
    from_first false is_start held_first stays =
        from_start store calls fact reader g is need kept first front name call said after back order step
        (at_in (IsNoStartAt store calls fact) readers reader (shared.begins is_start) there g is) held_first stays

    module _ (turn : LastTurn first fact front) where
      maker : IsOneOf calls turn.name turn.call turn.said
      maker = observed_at calls turn.front turn.name turn.call turn.said turn.after (turn.back ++ made name call said after ∷ back)
          (divided store calls fact reader g is need kept first front name call said after back order step turn).observed

      by_source_of : Contains sources maker.at ⊎ IsNoMakerFor store calls fact readers maker.at → ⊥
      by_source_of (inl listed) =
          let t = spent.turns turn.front turn.name turn.call turn.said turn.after turn.back turn.is maker ((is_member-Decides unsigned_Decides sources maker.at).1 listed) in
          clash_behind store.forget first first turn.front (made turn.name turn.call turn.said turn.after ∷ turn.back) fact t.x
          (subst (AreAllowed store.forget first first) turn.is front_allowed) turn.stays t.takes.leaves t.occurs
      by_source_of (inr none) =
          by_source store calls fact reader g is need kept first front name call said after back order step turn maker.at maker.x maker.is maker.step
          (at_in (λ (at : ℕ). IsNoMakerAt store calls fact maker.at at) readers reader none there maker.x g maker.is is
          (subst (λ (c : Call). may_make c maker.x.shown fact ≡ true) maker.step.called
          (turned_made fact need (item_after first turn.front) turn.call turn.said turn.after maker.x.shown turn.allowed maker.step.suits turn.failed turn.stays.0)))

      by_turn : ⊥
      by_turn = by_source_of (shared.listed maker.at (slice_get_within calls maker.at maker.x maker.is))

    no_reader : ⊥
    no_reader = go (has_last_turn store.forget first first fact safe front front_allowed held)
      where
        go : ((holds fact first ≡ true) × HoldsAfterEach fact front) ⊎ LastTurn first fact front → ⊥
        go (inl all) = from_first start refl all.0 all.1
        go (inr turn) = by_turn turn

  -- ---- one step more

  spent_lost : (front : List KeyStep) → AreSpent front → AreSpent (front ++ lost ∷ [])
  spent_lost front spent = record {
    begins = λ is. more_takers front (lost ∷ []) (spent.begins is);
    turns = λ one n c s a back is m listed. go one n c s a back m listed (ended front lost one (made n c s a) back is);
  }
    where
      go : (one : List KeyStep) (n : CallName) (c : Call) (s : Said) (a : Option Item) (back : List KeyStep) (m : IsOneOf calls n c s) → is_in sources m.at ≡ true
          → Ended front lost one (made n c s a) back → HasTaker (made n c s a ∷ back)
      go one n c s a back m listed (inl here) = let same = here.0 in absurd (cc)
      go one n c s a back m listed (inr more) =
          subst (λ (l : List KeyStep). HasTaker (made n c s a ∷ l)) (sym more.1) (more_takers (made n c s a ∷ more.0) (lost ∷ []) (spent.turns one n c s a more.0 more.2 m listed))

  spent_other : (front : List KeyStep) (name : CallName) (call : Call) (said : Said) (after : Option Item) (own : IsOneOf calls name call said) → is_in sources own.at ≡ false
      → AreSpent front → AreSpent (front ++ made name call said after ∷ [])
  spent_other front name call said after own unlisted spent = record {
    begins = λ is. more_takers front (made name call said after ∷ []) (spent.begins is);
    turns = λ one n c s a back is m listed. go one n c s a back m listed (ended front (made name call said after) one (made n c s a) back is);
  }
    where
      go : (one : List KeyStep) (n : CallName) (c : Call) (s : Said) (a : Option Item) (back : List KeyStep) (m : IsOneOf calls n c s) → is_in sources m.at ≡ true
          → Ended front (made name call said after) one (made n c s a) back → HasTaker (made n c s a ∷ back)
      go one n c s a back m listed (inl here) =
          let same : name ≡ n = let steps = here.0 in cc in
          let place = one_place calls once m.at own.at m.x own.x m.is own.is (sym m.step.named ∙ sym same ∙ own.step.named) in
          let both : true ≡ false = sym listed ∙ ap (is_in sources) place ∙ unlisted in
          absurd (cc)
      go one n c s a back m listed (inr more) =
          subst (λ (l : List KeyStep). HasTaker (made n c s a ∷ l)) (sym more.1)
          (more_takers (made n c s a ∷ more.0) (made name call said after ∷ []) (spent.turns one n c s a more.0 more.2 m listed))

  spent_taker : (front : List KeyStep) (name : CallName) (call : Call) (said : Said) (after : Option Item) (x : Observed) → IsStepOf x name call said → TakesAway fact x → AreSpent (front ++ made name call said after ∷ [])
  spent_taker front name call said after x step takes = record {
    begins = λ is. record { x = x; takes = takes; occurs = occurs_at x front name call said after [] step };
    turns = λ one n c s a back is m listed. record { x = x; takes = takes; occurs = occurs_last x front (made name call said after) one (made n c s a) back is (inl step) };
  }

  -- ---- all steps

  on : (first : Option Item) (front : List KeyStep) (step : KeyStep) (rest : List KeyStep) → IsOrderOf store calls first (front ++ step ∷ rest) → IsOrderOf store calls first ((front ++ step ∷ []) ++ rest)
  on first front step rest order = subst (IsOrderOf store calls first) (sym (append_assoc front (step ∷ []) rest)) order

  -- how many readers, and how many sources, are at these places
  abbrev readers_in : List ℕ → ℕ
  readers_in places = length (filter (is_in readers) places)

  abbrev sources_in : List ℕ → ℕ
  sources_in places = length (filter (is_in sources) places)

  module _ (first : Option Item) (front : List KeyStep) (n : CallName) (c : Call) (s : Said) (a : Option Item) (rest : List KeyStep) (order : IsOrderOf store calls first (front ++ made n c s a ∷ rest))
      (own : IsOneOf calls n c s) (places : List ℕ) (fresh : Bool) (spent : fresh ≡ false → AreSpent front)
      (more : (b : Bool) → (b ≡ false → AreSpent (front ++ made n c s a ∷ [])) → readers_in places ≤ sources_in places + one_if b) where
    taker : is_in readers own.at ≡ true → IsTaker calls fact own.at
    taker there = at_in (IsTaker calls fact) readers own.at shared.takers there

    own_step : (t : IsTaker calls fact own.at) → IsStepOf t.x n c s
    own_step t = subst (λ (o : Observed). IsStepOf o n c s) (same_Some own.x t.x (sym own.is ∙ t.is)) own.step

    -- a reader uses up what there was
    by_fresh : (b : Bool) → fresh ≡ b → is_in readers own.at ≡ true → readers_in (own.at ∷ places) ≤ sources_in (own.at ∷ places) + one_if b
    by_fresh false is there =
        let t = taker there in
        absurd (no_reader first front n c s a rest order own.at t.x t.is (own_step t) t.takes there (spent is))
    by_fresh true is there =
        let t = taker there in
        let later = more false (λ _. spent_taker front n c s a t.x (own_step t) t.takes) in
        let left = kept_long (is_in readers own.at) own.at (filter (is_in readers) places) there in
        let right = as_long (is_in sources own.at) own.at (filter (is_in sources) places) in
        omega (arith, later, left, right)

    by_source_at : (b : Bool) → is_in sources own.at ≡ b → is_in readers own.at ≡ false → readers_in (own.at ∷ places) ≤ sources_in (own.at ∷ places) + one_if fresh
    by_source_at true listed other =
        let later = more true (λ no. absurd (cc)) in
        let left = left_long (is_in readers own.at) own.at (filter (is_in readers) places) other in
        let right = kept_long (is_in sources own.at) own.at (filter (is_in sources) places) listed in
        omega (arith, later, left, right)
    by_source_at false unlisted other =
        let later = more fresh (λ is. spent_other front n c s a own unlisted (spent is)) in
        let left = left_long (is_in readers own.at) own.at (filter (is_in readers) places) other in
        let right = left_long (is_in sources own.at) own.at (filter (is_in sources) places) unlisted in
        omega (arith, later, left, right)

    one_more : readers_in (own.at ∷ places) ≤ sources_in (own.at ∷ places) + one_if fresh
    one_more = go (cases_Bool (is_in readers own.at))
      where
        go : (is_in readers own.at ≡ true) ⊎ (is_in readers own.at ≡ false) → readers_in (own.at ∷ places) ≤ sources_in (own.at ∷ places) + one_if fresh
        go (inl there) = by_fresh fresh refl there
        go (inr other) = by_source_at (is_in sources own.at) refl other

  walk : (first : Option Item) (front rest : List KeyStep) (are : AreObserved calls rest) → IsOrderOf store calls first (front ++ rest) → (fresh : Bool) → (fresh ≡ false → AreSpent front)
      → readers_in (places_of calls rest are) ≤ sources_in (places_of calls rest are) + one_if fresh
  walk first front [] are order fresh spent = omega arith
  walk first front (lost ∷ rest) are order fresh spent = walk first (front ++ lost ∷ []) rest are (on first front lost rest order) fresh (λ is. spent_lost front (spent is))
  walk first front (made n c s a ∷ rest) are order fresh spent =
      one_more first front n c s a rest order are.0 (places_of calls rest are.1) fresh spent
      (walk first (front ++ made n c s a ∷ []) rest are.1 (on first front (made n c s a) rest order))

  -- before all steps
  spent_at_first : start ≡ false → AreSpent []
  spent_at_first cold = record {
    begins = λ is. let both : true ≡ false = sym is ∙ cold in absurd (cc);
    turns = λ one n c s a back is m listed. none one n c s a back is;
  }
    where
      none : (one : List KeyStep) (n : CallName) (c : Call) (s : Said) (a : Option Item) (back : List KeyStep) → [] ≡ one ++ made n c s a ∷ back → HasTaker (made n c s a ∷ back)
      none [] n c s a back is = absurd (cc)
      none (x ∷ one) n c s a back is = absurd (cc)

  pub none_shared : HaveNoOrder store calls
  none_shared first steps order =
      let are = order.observed in
      let places = places_of calls steps are in
      let bound = walk first [] steps are order start spent_at_first in
      let listed = few (filter (is_in sources) places) sources (AllPairs-filter Differ (is_in sources) places (places_differ calls once steps are order.order))
      (λ n there. (and_parts (is_in places n) (is_in sources n) (sym (in_kept (is_in sources) places n) ∙ there)).1) in
      let all = few readers (filter (is_in readers) places) shared.apart
      (λ n there. let t = at_in (IsTaker calls fact) readers n shared.takers there in
      in_kept (is_in readers) places n ∙ and_from (is_in places n) (is_in readers n) (placed calls once n t.x t.is steps are (order.sure n t.x t.is t.takes.sure)) there) in
      let fewer = shared.fewer in
      omega (arith, bound, listed, all, fewer)
