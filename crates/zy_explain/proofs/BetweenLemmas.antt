-- From what a server had when a window began to what it has at its end.
use Rattle.std.proofs.Common.{◌≡◌, ◌⊎◌, ◌↔◌, inl, inr, ⊎_elim, ℕ, zero, suc, ◌+◌, Bool, true, false, ◌||◌, List, [], ◌∷◌, drop, Contains, Option, None, Some, IfSome, refl, sym, ap, ◌∙◌, subst, true≢false, arith}
use Rattle.std.proofs.lemmas.Map.Views.{Contains-from_any, list_any-from_Contains}
use Rattle.std.specs.BTreeSet.{BTreeSet, contains}
use Rattle.std.specs.Cmp.{eq_by_cmp_equiv}
use Rattle.std.specs.Cmp.Lexicographic.{slice_cmp, nat_list_cmp_total}
use Rattle.std.specs.List.{slice_get}
use Rattle.std.specs.Ordering.{nat_cmp}
use Rattle.mc_allows.specs.Steps.{is_same}
use Rattle.zy_base.specs.declared.outside.NoMemory.{NoMemory}
use Rattle.zy_capture.specs.declared.record.Record.{Record}
use Rattle.zy_confirm.specs.declared.store.Store.{Store}
use Rattle.zy_confirm.specs.declared.outcome.After.TheVariants.{Put}
use Rattle.zy_confirm.specs.Store.{ChangesAt}
use Rattle.zy_confirm.proofs.MakeLemmas.{same_key}
use Rattle.zy_sessions.specs.declared.sessions.Sessions.{Sessions}
use Rattle.zy_sessions.specs.Sessions.{SessionsHold}
use Rattle.zy_sessions.proofs.OtherLemmas.{others_have_nothing}
use Rattle.zy_items.specs.declared.standing.KeptItem.{KeptItem}
use Rattle.zy_items.specs.declared.standing.Standing.{Standing as Kept}
use Rattle.zy_items.specs.Standing.{Standing, standing_of}
use Rattle.zy_verdict.specs.Between.{item_in, IsExplainedBetweenWith}
use Rattle.zy_verdict.specs.Losses.{HasExptimeIn, MayLoseAt}
use Rattle.zy_explain.specs.declared.rules.Rules.{Rules}
use Rattle.zy_explain.specs.declared.numbers.Numbers.{Numbers}
use Rattle.zy_explain.specs.declared.state.State.{State}
use Rattle.zy_explain.specs.Beginning.{HoldsItems, Begins}
use Rattle.zy_explain.specs.Between.{StandsAt}
use Rattle.zy_explain.specs.Ending.{EndsAs, HaveTheirSessions}
use Rattle.zy_explain.specs.Following.{StandsSome, may_lose_by}
use Rattle.zy_explain.specs.Judged.{judged_after}
use Rattle.zy_explain.specs.Lasting.{IsUnion}
use Rattle.zy_explain.proofs.BeginLemmas.{holds_more}
use Rattle.zy_explain.proofs.EndLemmas.{either_true, between_with}

-- ---- the items at first

drop_at : {A : Type 0} (xs : List A) (i : ℕ) (x : A) → slice_get xs i ≡ Some x → drop i xs ≡ x ∷ drop (suc i) xs
drop_at {A = A} [] i x is = absurd (cc)
drop_at {A = A} (y ∷ xs) zero x is = let same : y ≡ x = cc in ap (λ (z : A). z ∷ xs) same
drop_at {A = A} (y ∷ xs) (suc i) x is = drop_at xs i x is

-- the items from a place on, after the one before it was put
pub holds_before : (shards : ℕ) (old new : Store) (items : List KeptItem) (kept : KeptItem) (i from : ℕ) → from ≡ i + 1 → slice_get items i ≡ Some kept → HoldsItems shards (drop from items) old
    → ChangesAt old new kept.key kept.item.unique (Put kept.item.flags kept.item.value) → HoldsItems shards (drop i items) new
holds_before shards old new items kept i from next at holds changes =
    subst (λ (l : List KeptItem). HoldsItems shards l new)
    (let same : from ≡ suc i = omega (arith, next) in ap (λ n. kept ∷ drop n items) same ∙ sym (drop_at items i kept at))
    (holds_more shards old new kept (drop from items) holds changes)

-- ---- the end

-- an order that was followed ends with the numbers that were found
pub ends_there : (rules : Rules) (lasting : BTreeSet (List ℕ)) (sessions : Sessions) (outputs : List (List (List ℕ))) (old new : State) (began : Store) (found : Option Numbers) (n : Numbers) → found ≡ Some n
    → IfSome found (λ m. (store : Store) → StandsSome rules lasting sessions outputs store old → EndsAs rules lasting sessions outputs store new m) → StandsSome rules lasting sessions outputs began old
    → EndsAs rules lasting sessions outputs began new n
ends_there rules lasting sessions outputs old new began found n is ends =
    subst (λ (f : Option Numbers). IfSome f (λ m. (store : Store) → StandsSome rules lasting sessions outputs store old → EndsAs rules lasting sessions outputs store new m)) is ends began

-- ---- the keys whose items may be lost

among : (keys : BTreeSet (List ℕ)) (key : List ℕ) → contains (slice_cmp nat_cmp) keys key ≡ true → Contains keys.keys key
among keys key is = Contains-from_any {eq = is_same} same_key key keys.keys is

-- a key of a set is in it
pub is_one : (keys : BTreeSet (List ℕ)) (key : List ℕ) → Contains keys.keys key → contains (slice_cmp nat_cmp) keys key ≡ true
is_one keys key at = list_any-from_Contains {eq = is_same} (eq_by_cmp_equiv nat_list_cmp_total) key keys.keys at

or_true : (a b : Bool) → (a ≡ true) ⊎ (b ≡ true) → (a || b) ≡ true
or_true true b is = refl
or_true false b (inl is) = absurd (true≢false (sym is))
or_true false b (inr is) = is

module _ (one other all : BTreeSet (List ℕ)) (union : IsUnion one other all) (key : List ℕ) where
  of_either : contains (slice_cmp nat_cmp) all key ≡ true → (Contains one.keys key) ⊎ (contains (slice_cmp nat_cmp) other key ≡ true)
  of_either is = ⊎_elim (λ first. inl (among one key first)) (λ second. inr second) (either_true (contains (slice_cmp nat_cmp) one key) (contains (slice_cmp nat_cmp) other key) (sym (union key) ∙ is))

  in_either : (Contains one.keys key) ⊎ (contains (slice_cmp nat_cmp) other key ≡ true) → contains (slice_cmp nat_cmp) all key ≡ true
  in_either is =
      union key
      ∙ or_true (contains (slice_cmp nat_cmp) one key) (contains (slice_cmp nat_cmp) other key) (⊎_elim (λ first. inl (is_one one key first)) (λ second. inr second) is)

-- ---- the whole

module _ (rules : Rules) (from : Kept) (sessions : Sessions) (outputs : List (List (List ℕ))) (began : Store) (lasting : BTreeSet (List ℕ)) (have : HaveTheirSessions sessions outputs)
    (begins : Begins rules.shards (standing_of from) began) (union : IsUnion from.lasting sessions.lasting lasting) where
  module _ (state : State) (n : Numbers) (to : Kept) (ends : EndsAs rules lasting sessions outputs began state n) (at : StandsAt state.store lasting (standing_of to)) (count : ℕ) (records : List Record)
      (hold : SessionsHold sessions count records) where
    may_lose : (key : List ℕ) → may_lose_by rules lasting key ≡ true → MayLoseAt (judged_after from.lasting.keys rules count records outputs) key
    may_lose key may = ⊎_elim
        (λ forget. inl forget)
        (λ is. ⊎_elim
        (λ earlier. inr (inr earlier))
        (λ own. inr (inl ((hold.lasting key).0 own)))
        (of_either from.lasting sessions.lasting lasting union key is))
        (either_true rules.forget (contains (slice_cmp nat_cmp) lasting key) may)

    lasts : (key : List ℕ) → (Contains to.lasting.keys key ↔ (Contains from.lasting.keys key ⊎ HasExptimeIn records key))
    lasts key = (
      λ there. ⊎_elim
          (λ earlier. inl earlier)
          (λ own. inr ((hold.lasting key).0 own))
          (of_either from.lasting sessions.lasting lasting union key (is_one lasting key (subst (λ (l : List (List ℕ)). Contains l key) at.lasting_is there))),
      λ either.
          subst (λ (l : List (List ℕ)). Contains l key) (sym at.lasting_is)
          (among lasting key (in_either from.lasting sessions.lasting lasting union key (⊎_elim (λ earlier. inl earlier) (λ own. inr ((hold.lasting key).1 own)) either))),
    )

    -- the order leads from what the server had at first to what it has at last
    pub window : IsExplainedBetweenWith (judged_after from.lasting.keys rules count records outputs) (standing_of from) (standing_of to) n.commands n.ended
    window =
        between_with rules lasting from.lasting.keys sessions outputs began state ends.entries ends.stands n have ends.numbers count records hold
        (λ conn session none. others_have_nothing sessions count records hold conn session none) may_lose (standing_of from) (standing_of to) refl begins at lasts
