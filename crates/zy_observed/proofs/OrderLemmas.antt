-- A course of a key is an order of the calls at that key.
use Rattle.std.specs.Prelude.{nat_eq, nat_lt, not}
use Rattle.std.specs.List.{slice_get}
use Rattle.std.proofs.Common.{◌≡◌, ◌⊎◌, inl, inr, ℕ, ◌<◌, ◌≤◌, ◌&&◌, ◌||◌, Bool, true, false, List, [], ◌∷◌, length, get_or, map, All, AllPairs, Contains, Option, None, Some, refl, sym, ap, ◌∙◌, subst, arith}
use Rattle.std.proofs.lemmas.Bool.{and_parts, or_cases, eqb-true, ltb-true, false_from_ne_true, true_from_ne_false}
use Rattle.std.proofs.lemmas.List.Elements.{All-nil, All-cons, All-head, All-tail, All-weaker, All-contains}
use Rattle.std.proofs.lemmas.Option.{slice_get-get_or}
use Rattle.mc_calls.specs.declared.item.Item.{Item}
use Rattle.mc_calls.specs.declared.call.Call.{Call}
use Rattle.mc_allows.specs.declared.call_name.CallName.{CallName}
use Rattle.mc_allows.specs.declared.said.Said.{Said}
use Rattle.mc_allows.specs.declared.said.Said.TheVariants.{Failed}
use Rattle.mc_allows.specs.Allows.{may_fail_quietly}
use Rattle.mc_allows.specs.Needs.{Suits}
use Rattle.mc_allows.specs.Steps.{KeyStep, made, lost, MayLose, AreAllowed, IsAllowedChain}
use Rattle.mc_answers.specs.Output.{FitsText}
use Rattle.zy_refute.specs.declared.observed.Observed.{Observed}
use Rattle.zy_refute.specs.declared.store.Store.{Store}
use Rattle.zy_refute.specs.Observed.{is_one_session, is_same_name, is_earlier_in_session, had_ended, is_surely_before}
use Rattle.zy_refute.specs.Courses.{IsStepOf, Occurs, IsOneOf, AreObserved, IsNotBefore, IsLaterStep, AreLater, KeepOrder, IsOrderOf}
use Rattle.zy_verdict.specs.Recorded.{Recorded}
use Rattle.zy_verdict.specs.Entries.{NamedCall, MadeCall, is_at_key, AreStepsOf}
use Rattle.zy_verdict.specs.Explained.{OutputCuts, AreCuts, IsCallSent, IsCallQuiet, MayHaveFailed}
use Rattle.zy_verdict.specs.Course.{IsCallOf, IsEarlier, AreOfOneSession, KeepsCallOrder, IsSurelyBefore, IsCallAt, IsCourseBy, HasCourse}
use Rattle.zy_verdict.proofs.ListLemmas.{mapped_contains, contains_at, all_at, pairs_head, pairs_tail}
use Rattle.zy_verdict.proofs.CourseLemmas.{before_first}
use Rattle.zy_observed.specs.Shown.{named_of, MayBeSaid, IsShown, AreShown}
use Rattle.zy_observed.specs.AtKey.{is_call_at_key, IsOneAtKey, AreCallsAt, IsStoreAt, HasNoCourse}

-- ---- surely before

record HadEnded (ended : Option ℕ) (sent : ℕ) : Type 0 where
  moment : ℕ
  is : ended ≡ Some moment
  before : moment < sent

had_ended_at : (ended : Option ℕ) (sent : ℕ) → had_ended ended sent ≡ true → HadEnded ended sent
had_ended_at None sent is = absurd (cc)
had_ended_at (Some moment) sent is = record { moment = moment; is = refl; before = ltb-true moment sent is }

earlier_in_session : (one other : CallName) → is_earlier_in_session one other ≡ true → AreOfOneSession one other × IsEarlier one other
earlier_in_session one other is =
    let both = and_parts (is_one_session one other) (nat_lt one.index other.index || (nat_eq one.index other.index && nat_lt one.part other.part)) is in
    let session = and_parts (nat_eq one.conn other.conn) (nat_eq one.session other.session) both.0 in (
      record { conn = eqb-true one.conn other.conn session.0; session = eqb-true one.session other.session session.1 },
      order (or_cases (nat_lt one.index other.index) (nat_eq one.index other.index && nat_lt one.part other.part) both.1),
    )
  where
    order : (nat_lt one.index other.index ≡ true) ⊎ ((nat_eq one.index other.index && nat_lt one.part other.part) ≡ true) → IsEarlier one other
    order (inl low) = inl (ltb-true one.index other.index low)
    order (inr same) =
        let parts = and_parts (nat_eq one.index other.index) (nat_lt one.part other.part) same in
        inr (eqb-true one.index other.index parts.0, ltb-true one.part other.part parts.1)

module _ (r : Recorded) (cuts : OutputCuts) (cut : AreCuts r cuts) where
  -- what the code takes for surely before is so
  surely_before : (x y : Observed) → IsShown r x → IsShown r y → is_surely_before x y ≡ true → IsSurelyBefore r cuts x.name y.name
  surely_before x y one other is =
      go (or_cases (had_ended x.ended y.sent) (is_earlier_in_session x.name y.name)
      (and_parts (not (is_same_name x.name y.name)) (had_ended x.ended y.sent || is_earlier_in_session x.name y.name) is).1)
    where
      go : (had_ended x.ended y.sent ≡ true) ⊎ (is_earlier_in_session x.name y.name ≡ true) → IsSurelyBefore r cuts x.name y.name
      go (inl ended) =
          let end = had_ended_at x.ended y.sent ended in
          let low = end.before in
          inl (record {
            moment = end.moment;
            ended = one.ended end.moment end.is cuts cut;
            unsent = λ sent. let late = other.sent end.moment sent in omega (arith, late, low);
          })
      go (inr earlier) = inr (earlier_in_session x.name y.name earlier)

-- ---- a chain with fewer losses

lose_more : (some all : Bool) (first before : Option Item) → (some ≡ true → all ≡ true) → MayLose some first before → MayLose all first before
lose_more some all first before may (inl is) = inl (may is)
lose_more some all first before may (inr was) = inr was

allowed_more : (some all : Bool) (first before : Option Item) (steps : List KeyStep) → (some ≡ true → all ≡ true) → AreAllowed some first before steps → AreAllowed all first before steps
allowed_more some all first before [] may allowed = tt
allowed_more some all first before (made n c s a ∷ steps) may allowed = (allowed.0, allowed_more some all first a steps may allowed.1)
allowed_more some all first before (lost ∷ steps) may allowed = (lose_more some all first before may allowed.0, allowed_more some all None None steps may allowed.1)

-- ---- an order

not_earlier : (name : CallName) → IsEarlier name name → ⊥
not_earlier name (inl low) = omega (arith, low)
not_earlier name (inr same) = let low = same.1 in omega (arith, low)

-- a call is later than one of another name, and not surely before it
record IsAfter (r : Recorded) (cuts : OutputCuts) (e later : MadeCall) : Type 0 where
  other : later.named.name ≡ e.named.name → ⊥
  order : IsSurelyBefore r cuts later.named.name e.named.name → ⊥

module _ (r : Recorded) (calls : List Observed) (shown : AreShown r calls) (cuts : OutputCuts) (cut : AreCuts r cuts) (key : List ℕ) (own : List Observed) (at : AreCallsAt r.shards key calls own) where
  -- ---- calls

  shown_there : (x : Observed) → Contains calls x → IsShown r x
  shown_there x there = All-contains (IsShown r) calls x shown.each there

  shown_at : (i : ℕ) (x : Observed) → slice_get own i ≡ Some x → IsShown r x
  shown_at i x is = shown_there x (all_at (IsOneAtKey r.shards key calls) own i x at.each is).there

  -- a call at the key, as it is shown
  record IsShownAs (e : MadeCall) : Type 0 where
    x : Observed
    there : Contains calls x
    own_there : Contains own x
    named : named_of x ≡ e.named

  shown_as : (e : MadeCall) → IsCallAt r cuts key e → IsShownAs e
  shown_as e is =
      let found = mapped_contains named_of calls e.named (shown.all is.command e.named is.belongs) in
      let about = subst (λ (n : NamedCall). is_at_key r.shards key n.call ≡ true) (sym found.2) is.about in
      record { x = found.0; there = found.1; own_there = at.all found.0 found.1 about; named = found.2 }

  -- what was said to a call suits what is shown of it
  suits : (e : MadeCall) → IsCallAt r cuts key e → MayHaveFailed r e → (x : Observed) → IsShown r x → named_of x ≡ e.named → Suits x.shown e.said
  suits e is failure x one named =
      let back = sym named in
      one.shown cuts cut e.said (record {
        command = is.command;
        belongs = subst (IsCallOf r is.command) back is.belongs;
        saids = is.said;
        part = subst (λ (n : NamedCall). slice_get is.said n.name.part ≡ Some e.said) back is.part;
        fits = subst (λ (n : NamedCall). FitsText (cuts n.name.conn n.name.session) n.name.index is.command is.said) back is.fits;
        failure = subst (λ (n : NamedCall). e.said ≡ Failed → IsCallQuiet r n.name → may_fail_quietly r.forget n.call.call ≡ true) back failure;
      })

  step_of : (e : MadeCall) → IsCallAt r cuts key e → MayHaveFailed r e → (x : Observed) → IsShown r x → named_of x ≡ e.named
      → (n : CallName) (c : Call) (s : Said) → n ≡ e.named.name → c ≡ e.named.call.call → s ≡ e.said → IsStepOf x n c s
  step_of e is failure x one named n c s name_is call_is said_is = record {
    named = name_is ∙ ap (λ (m : NamedCall). m.name) (sym named);
    called = call_is ∙ ap (λ (m : NamedCall). m.call.call) (sym named);
    suits = subst (Suits x.shown) (sym said_is) (suits e is failure x one named);
  }

  -- ---- steps

  are_observed : (entries : List MadeCall) (steps : List KeyStep) → AreStepsOf entries steps → All (IsCallAt r cuts key) entries → All (MayHaveFailed r) entries → AreObserved own steps
  are_observed [] [] are each failures = tt
  are_observed [] (made n c s a ∷ steps) are each failures = absurd are
  are_observed [] (lost ∷ steps) are each failures = are_observed [] steps are each failures
  are_observed (e ∷ entries) [] are each failures = absurd are
  are_observed (e ∷ entries) (lost ∷ steps) are each failures = are_observed (e ∷ entries) steps are each failures
  are_observed (e ∷ entries) (made n c s a ∷ steps) are each failures =
      let is = All-head (IsCallAt r cuts key) e entries each in
      let failure = All-head (MayHaveFailed r) e entries failures in
      let own_call = shown_as e is in (
        record {
          at = own_call.own_there.0;
          x = own_call.x;
          is = contains_at own own_call.x own_call.own_there;
          step = step_of e is failure own_call.x (shown_there own_call.x own_call.there) own_call.named n c s are.0 are.1 are.2;
        },
        are_observed entries steps are.3 (All-tail (IsCallAt r cuts key) e entries each) (All-tail (MayHaveFailed r) e entries failures),
      )

  -- a call that has the name of an entry is among the steps
  abbrev IsAmong : List KeyStep → MadeCall → Type 0
  IsAmong steps e = (x : Observed) → IsShown r x → named_of x ≡ e.named → Occurs x steps

  are_among : (entries : List MadeCall) (steps : List KeyStep) → AreStepsOf entries steps → All (IsCallAt r cuts key) entries → All (MayHaveFailed r) entries → All (IsAmong steps) entries
  are_among [] steps are each failures = All-nil (IsAmong steps)
  are_among (e ∷ entries) [] are each failures = absurd are
  are_among (e ∷ entries) (lost ∷ steps) are each failures = are_among (e ∷ entries) steps are each failures
  are_among (e ∷ entries) (made n c s a ∷ steps) are each failures =
      All-cons (IsAmong (made n c s a ∷ steps)) e entries
      (λ x one named. inl (step_of e (All-head (IsCallAt r cuts key) e entries each) (All-head (MayHaveFailed r) e entries failures) x one named n c s are.0 are.1 are.2))
      (All-weaker (IsAmong steps) (IsAmong (made n c s a ∷ steps)) (λ other among x one named. inr (among x one named)) entries
      (are_among entries steps are.3 (All-tail (IsCallAt r cuts key) e entries each) (All-tail (MayHaveFailed r) e entries failures)))

  -- ---- order

  are_later : (e : MadeCall) (n : CallName) → n ≡ e.named.name → (entries : List MadeCall) (steps : List KeyStep) → AreStepsOf entries steps → All (IsAfter r cuts e) entries → AreLater own n steps
  are_later e n is [] [] are after = tt
  are_later e n is [] (made m c s a ∷ steps) are after = absurd are
  are_later e n is [] (lost ∷ steps) are after = are_later e n is [] steps are after
  are_later e n is (later ∷ entries) [] are after = absurd are
  are_later e n is (later ∷ entries) (lost ∷ steps) are after = are_later e n is (later ∷ entries) steps are after
  are_later e n is (later ∷ entries) (made m c s a ∷ steps) are after =
      let here = All-head (IsAfter r cuts e) later entries after in (
        record {
          other = λ same. here.other (sym are.0 ∙ same ∙ is);
          order = λ i j x y at_i at_j one other. false_from_ne_true (is_surely_before x y)
              (λ before. here.order (subst (λ (k : CallName). IsSurelyBefore r cuts later.named.name k) is
              (subst (λ (k : CallName). IsSurelyBefore r cuts later.named.name k) (sym other)
              (subst (λ (k : CallName). IsSurelyBefore r cuts k y.name) (sym one ∙ are.0)
              (surely_before r cuts cut x y (shown_at i x at_i) (shown_at j y at_j) before)))));
        },
        are_later e n is entries steps are.3 (All-tail (IsAfter r cuts e) later entries after),
      )

  keep_order : (entries : List MadeCall) (steps : List KeyStep) → AreStepsOf entries steps → AllPairs (IsAfter r cuts) entries → KeepOrder own steps
  keep_order [] [] are pairs = tt
  keep_order [] (made n c s a ∷ steps) are pairs = absurd are
  keep_order [] (lost ∷ steps) are pairs = keep_order [] steps are pairs
  keep_order (e ∷ entries) [] are pairs = absurd are
  keep_order (e ∷ entries) (lost ∷ steps) are pairs = keep_order (e ∷ entries) steps are pairs
  keep_order (e ∷ entries) (made n c s a ∷ steps) are pairs = (
    are_later e n are.0 entries steps are.3 (pairs_head (IsAfter r cuts) e entries pairs),
    keep_order entries steps are.3 (pairs_tail (IsAfter r cuts) e entries pairs),
  )

  -- ---- the order

  module _ (first : Option Item) (entries : List MadeCall) (steps : List KeyStep) (course : IsCourseBy r cuts key first entries steps) where
    after_each : AllPairs (IsAfter r cuts) entries
    after_each i j d before within =
        let e : MadeCall = get_or entries i d in
        let later : MadeCall = get_or entries j d in
        let low : i < length entries = omega (arith, before, within) in
        record {
          other = λ same. let order = course.order i j d before within in
              let earlier = order (record { conn = ap (λ (k : CallName). k.conn) (sym same); session = ap (λ (k : CallName). k.session) (sym same) }) in
              not_earlier e.named.name (subst (IsEarlier e.named.name) same earlier);
          order = λ sooner. let back = before_first r cuts key first entries steps course j i later e (slice_get-get_or entries j d within) (slice_get-get_or entries i d low) sooner in
              omega (arith, before, back);
        }

    sure_occurs : (i : ℕ) (x : Observed) → slice_get own i ≡ Some x → x.sure ≡ true → Occurs x steps
    sure_occurs i x is sure =
        let one = shown_at i x is in
        let about = (all_at (IsOneAtKey r.shards key calls) own i x at.each is).about in
        let found = mapped_contains (λ (e : MadeCall). e.named) entries (named_of x) (course.sure one.belongs.command (named_of x) one.belongs.is about (one.sure sure cuts cut)) in
        All-contains (IsAmong steps) entries found.0 (are_among entries steps course.chain.calls course.calls course.failures) found.1 x one (sym found.2)

    pub order_of : (store : Store) → IsStoreAt r key store → (r.warm ≡ false → first ≡ None) → IsOrderOf store own first steps
    order_of store may cold = record {
      cold = λ unwarm. cold (false_from_ne_true r.warm (λ warm. let both : true ≡ false = sym (may.warm warm) ∙ unwarm in cc));
      chain = record {
        allowed = allowed_more course.chain.forget store.forget first first steps (λ forgets. may.forget (course.chain.losses forgets)) course.chain.chain.allowed;
        new = course.chain.chain.new;
      };
      observed = are_observed entries steps course.chain.calls course.calls course.failures;
      sure = sure_occurs;
      order = keep_order entries steps course.chain.calls after_each;
    }
