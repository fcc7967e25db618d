-- A call touches its own key only, and depends on the item of that key only.
use Rattle.std.proofs.Common.{◌≡◌, ℕ, ◌+◌, Bool, true, false, cond, List, [], refl, sym, ap, ◌∙◌, subst}
use Rattle.std.specs.Prelude.{is_some, unwrap_or, Option, None, Some}
use Rattle.std.specs.Ordering.{nat_cmp, is_eq}
use Rattle.std.specs.declared.cmp.Ordering.{Ordering}
use Rattle.std.specs.declared.cmp.Ordering.TheVariants.{Less, Equal, Greater}
use Rattle.std.specs.Cmp.Lexicographic.{slice_cmp, nat_list_cmp_total}
use Rattle.std.specs.FinMap.{get, get-empty, get-insert, get-remove, slice_cmp-IsAntisymmetric, nat_cmp-IsAntisymmetric}
use Rattle.mc_calls.specs.declared.item.Item.{Item}
use Rattle.mc_calls.specs.declared.call.Call.{Call}
use Rattle.mc_calls.specs.declared.call.Call.TheVariants.{Flush, Tally}
use Rattle.mc_calls.specs.Table.{CallParts, parts_of, key_part, Acts, clears, always}
use Rattle.mc_calls.specs.Code.{call_row, call_kind}
use Rattle.mc_calls.specs.Kind.{IsTrue}
use Rattle.mc_calls.proofs.TableLemmas.{say_mute, rows_say, are_single, rows_single, is_clear, are_at, calls_at}
use Rattle.mc_calls.proofs.KindLemmas.{acts_by, bare_by}
use Rattle.mc_calls.specs.declared.tallied.Tallied.{Tallied}
use Rattle.mc_calls.specs.Call.{key_of}
use Rattle.mc_calls.specs.Shard.{Items, State, tallied, Effect, keeps, stores, removes, empties, unique_of, done_of, outcome_of, outcome_on, item_at, state_with, state_after}
use Rattle.mc_allows.specs.Steps.{is_same, is_own_key, is_about}

-- ---- a call touches its own key

-- an effect is on this key, or on all keys where there is none
abbrev pub IsFor : Option (List ℕ) → Effect → Type 0
IsFor on keeps = Unit {0}
IsFor None (stores key flags value) = ⊥
IsFor None (removes key) = ⊥
IsFor None empties = Unit {0}
IsFor (Some on) (stores key flags value) = key ≡ on
IsFor (Some on) (removes key) = key ≡ on
IsFor (Some on) empties = ⊥

-- a call that removes all items has no key
abbrev clear_bare : Bool → Acts → Bool
clear_bare true (always clears) = false
clear_bare b acts = true

calls_clear : (call : Call) → IsTrue (clear_bare (is_some (key_of call)) (call_row call).acts)
calls_clear Flush = tt
calls_clear call = tt

-- an effect of a call is on its key, where it has one, and else on no key
acts_for : (counts : Tallied) (call : CallParts) (key : Option (List ℕ)) (acts : Acts) (found : Option Item) → call.key ≡ key → IsTrue (say_mute acts) → IsTrue (are_single acts)
    → IsTrue (are_at (is_some key) acts) → IsTrue (clear_bare (is_some key) acts) → IsFor key (done_of counts call acts found).effect
acts_for counts call None acts found own mute single at clear =
    bare_by counts call found (λ outcome. IsFor None outcome.effect) (λ reply mute. tt) (λ item. tt) acts mute at (λ all. tt)
acts_for counts call (Some key) acts found own mute single at clear =
    subst (λ k. IsFor (Some k) (done_of counts call acts found).effect) (ap (λ k. unwrap_or k []) own)
    (acts_by counts call found (λ outcome. IsFor (Some (key_part call)) outcome.effect) (record {
      says = λ reply mute. tt;
      shows = λ item there. tt;
      stores = λ flags value small. refl;
      numbers = λ item number fits. refl;
      takes = refl;
    }) acts found refl mute single (λ all. absurd (keyed acts all clear)))
  where
    keyed : (acts : Acts) → IsTrue (is_clear acts) → IsTrue (clear_bare true acts) → ⊥
    keyed (always clears) all clear = absurd clear
    keyed acts all clear = absurd all

pub effect_for : (counts : Tallied) (call : Call) (found : Option Item) → IsFor (key_of call) (outcome_of counts call found).effect
effect_for counts call found = acts_for counts (parts_of call) (key_of call) (call_row call).acts found refl (rows_say (call_kind call)) (rows_single (call_kind call)) (calls_at call) (calls_clear call)

pub chosen : {A : Type 0} (b : Bool) (x y : A) → b ≡ true → cond b x y ≡ x
chosen true x y is = refl
chosen false x y is = cc

pub other : {A : Type 0} (b : Bool) (x y : A) → b ≡ false → cond b x y ≡ y
other true x y is = cc
other false x y is = refl

-- the item of another key stays
elsewhere : (shards number : ℕ) (state : State) (key : List ℕ) (on : Option (List ℕ)) (effect : Effect) → IsFor on effect → is_own_key key on ≡ false
    → get (state_with shards number state effect).items key ≡ get state.items key
elsewhere shards number state key on keeps for is = refl
elsewhere shards number state key None (stores k flags value) for is = absurd for
elsewhere shards number state key None (removes k) for is = absurd for
elsewhere shards number state key None empties for is = cc
elsewhere shards number state key (Some on) (stores k flags value) for is =
    get-insert nat_list_cmp_total state.items k _ key ∙ other (is_same key k) _ _ (ap (is_same key) for ∙ is)
elsewhere shards number state key (Some on) (removes k) for is =
    get-remove nat_list_cmp_total state.items k key ∙ other (is_same key k) _ _ (ap (is_same key) for ∙ is)
elsewhere shards number state key (Some on) empties for is = absurd for

-- what the key has after an effect on it, which gives an item this unique
abbrev pub after_effect : ℕ → Option Item → Effect → Option Item
after_effect unique found keeps = found
after_effect unique found (stores key flags value) = Some (record { flags = flags; value = value; unique = unique })
after_effect unique found (removes key) = None
after_effect unique found empties = None

-- the item of the key itself
here : (shards number : ℕ) (state : State) (key : List ℕ) (on : Option (List ℕ)) (effect : Effect) → IsFor on effect → is_own_key key on ≡ true
    → get (state_with shards number state effect).items key ≡ after_effect (unique_of shards number (state.count + 1)) (get state.items key) effect
here shards number state key on keeps for is = refl
here shards number state key None (stores k flags value) for is = absurd for
here shards number state key None (removes k) for is = absurd for
here shards number state key None empties for is = get-empty (slice_cmp nat_cmp) key
here shards number state key (Some on) (stores k flags value) for is =
    get-insert nat_list_cmp_total state.items k _ key ∙ chosen (is_same key k) _ _ (ap (is_same key) for ∙ is)
here shards number state key (Some on) (removes k) for is =
    get-remove nat_list_cmp_total state.items k key ∙ chosen (is_same key k) _ _ (ap (is_same key) for ∙ is)
here shards number state key (Some on) empties for is = absurd for

-- ---- a call on the key

equal : (order : Ordering) → is_eq order ≡ true → order ≡ Equal
equal Less is = cc
equal Equal is = refl
equal Greater is = cc

same_item : (items : Items) (key other : List ℕ) → is_same key other ≡ true → get items other ≡ get items key
same_item items key other is = ap (get items) (sym (slice_cmp-IsAntisymmetric nat_cmp-IsAntisymmetric key other (equal _ is)))

-- a call about the key has that key, or none
pub about_key : (key : List ℕ) (call : Call) → is_about key call ≡ true → is_own_key key (key_of call) ≡ true
about_key key Tally is = cc
about_key key call is = is

-- the outcome of a call about the key is its outcome on the item of the key
finds_at : (state : State) (key : List ℕ) (call : Call) (on : Option (List ℕ)) → key_of call ≡ on → is_own_key key on ≡ true → (on ≡ None → (found : Option Item) → outcome_of (tallied state) call None ≡ outcome_of (tallied state) call found)
    → outcome_on state call ≡ outcome_of (tallied state) call (get state.items key)
finds_at state key call None named is none = ap (λ k. outcome_of (tallied state) call (item_at state.items k)) named ∙ none refl (get state.items key)
finds_at state key call (Some on) named is none =
    ap (λ k. outcome_of (tallied state) call (item_at state.items k)) named ∙ ap (outcome_of (tallied state) call) (same_item state.items key on is)

-- a call without a key does the same whatever is found
keyless : (state : State) (call : Call) → key_of call ≡ None → (found : Option Item) → outcome_of (tallied state) call None ≡ outcome_of (tallied state) call found
keyless state Flush none found = refl
keyless state Tally none found = refl
keyless state call none found = absurd (cc)

pub finds : (state : State) (key : List ℕ) (call : Call) → is_about key call ≡ true → outcome_on state call ≡ outcome_of (tallied state) call (get state.items key)
finds state key call is = finds_at state key call (key_of call) refl (about_key key call is) (keyless state call)

-- a call that is not about the key leaves its item
pub untouched : (shards number : ℕ) (state : State) (key : List ℕ) (call : Call) → is_about key call ≡ false → get (state_after shards number state call).items key ≡ get state.items key
untouched shards number state key Tally is = refl
untouched shards number state key call is = elsewhere shards number state key (key_of call) (outcome_on state call).effect (effect_for (tallied state) call (item_at state.items (key_of call))) is

-- what the key has after a call about it
pub touched : (shards number : ℕ) (state : State) (key : List ℕ) (call : Call) → is_about key call ≡ true
    → get (state_after shards number state call).items key ≡ after_effect (unique_of shards number (state.count + 1)) (get state.items key) (outcome_on state call).effect
touched shards number state key call is =
    here shards number state key (key_of call) (outcome_on state call).effect (effect_for (tallied state) call (item_at state.items (key_of call))) (about_key key call is)
