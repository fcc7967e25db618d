-- What is seen at one key of a shard depends only on the calls with this key.
use Rattle.std.proofs.Common.{◌≡◌, ℕ, ◌+◌, Bool, true, false, cond, List, refl, sym, ap, ◌∙◌, subst, Option, None, Some}
use Rattle.std.specs.Prelude.{[], unwrap_or}
use Rattle.std.specs.Ordering.{nat_cmp, eq_by_cmp, is_eq}
use Rattle.std.specs.declared.cmp.Ordering.{Ordering}
use Rattle.std.specs.declared.cmp.Ordering.TheVariants.{Less, Equal, Greater}
use Rattle.std.specs.Cmp.Lexicographic.{slice_cmp, nat_list_cmp_total}
use Rattle.std.specs.FinMap.{get, get-empty, get-insert, get-remove, nat_cmp-IsAntisymmetric, slice_cmp-IsAntisymmetric}
use Rattle.mc_calls.specs.declared.item.Item.{Item}
use Rattle.mc_calls.specs.declared.call.Call.{Call}
use Rattle.mc_calls.specs.Table.{CallParts, parts_of, key_part, Act, Acts, exchanges, clears, tallies, always, by_item}
use Rattle.mc_calls.specs.Code.{call_row}
use Rattle.mc_calls.specs.Kind.{IsTrue}
use Rattle.mc_calls.specs.declared.tallied.Tallied.{Tallied}
use Rattle.mc_calls.specs.Call.{key_of}
use Rattle.mc_calls.specs.Shard.{Items, State, Effect, keeps, stores, removes, empties, unique_of, reply_to, state_after, state_with, tallied, item_at, done, done_of, outcome_of, outcome_on}
use Rattle.mc_calls.proofs.TableLemmas.{holds_both, is_clear}
use Rattle.mc_calls.proofs.KindLemmas.{outcome_by}
use Rattle.mc_calls.specs.Told.{told, seen, seen_at, seen_after, is_steady_act, are_steady, IsSteady, IsAtOnly}

-- ---- what a call answers and does

-- what is answered, without its unique, depends on what is found without its unique, and not on what the shard counts
told-done : (counts others : Tallied) (call : CallParts) (act : Act) (found : Option Item) → IsTrue (is_steady_act act) → told (done counts call act found).reply ≡ told (done others call act (seen found)).reply
told-done counts others call exchanges found steady = absurd steady
told-done counts others call clears found steady = absurd steady
told-done counts others call tallies found steady = absurd steady
told-done counts others call act None steady = refl
told-done counts others call act (Some item) steady = refl

-- and so does the effect
effect-done : (counts others : Tallied) (call : CallParts) (act : Act) (found : Option Item) → IsTrue (is_steady_act act) → (done counts call act found).effect ≡ (done others call act (seen found)).effect
effect-done counts others call exchanges found steady = absurd steady
effect-done counts others call clears found steady = absurd steady
effect-done counts others call tallies found steady = absurd steady
effect-done counts others call act None steady = refl
effect-done counts others call act (Some item) steady = refl

told-done_of : (counts others : Tallied) (call : CallParts) (acts : Acts) (found : Option Item) → IsTrue (are_steady acts) → told (done_of counts call acts found).reply ≡ told (done_of others call acts (seen found)).reply
told-done_of counts others call (always act) found steady = told-done counts others call act found steady
told-done_of counts others call (by_item without with) None steady = told-done counts others call without None (holds_both _ _ steady).0
told-done_of counts others call (by_item without with) (Some item) steady = told-done counts others call with (Some item) (holds_both _ _ steady).1

effect-done_of : (counts others : Tallied) (call : CallParts) (acts : Acts) (found : Option Item) → IsTrue (are_steady acts) → (done_of counts call acts found).effect ≡ (done_of others call acts (seen found)).effect
effect-done_of counts others call (always act) found steady = effect-done counts others call act found steady
effect-done_of counts others call (by_item without with) None steady = effect-done counts others call without None (holds_both _ _ steady).0
effect-done_of counts others call (by_item without with) (Some item) steady = effect-done counts others call with (Some item) (holds_both _ _ steady).1

told-outcome_of : (counts others : Tallied) (call : Call) (found : Option Item) → IsSteady call → told (outcome_of counts call found).reply ≡ told (outcome_of others call (seen found)).reply
told-outcome_of counts others call found steady = told-done_of counts others (parts_of call) (call_row call).acts found steady

effect-outcome_of : (counts others : Tallied) (call : Call) (found : Option Item) → IsSteady call → (outcome_of counts call found).effect ≡ (outcome_of others call (seen found)).effect
effect-outcome_of counts others call found steady = effect-done_of counts others (parts_of call) (call_row call).acts found steady

-- ---- the key of an effect

-- a steady call does not remove all items
not_clear : (acts : Acts) → IsTrue (are_steady acts) → IsTrue (is_clear acts) → ⊥
not_clear (always clears) steady clear = absurd steady
not_clear acts steady clear = absurd clear

-- the effect of a call is at its key
at-outcome_of : (counts : Tallied) (key : List ℕ) (call : Call) (found : Option Item) → IsSteady call → key_of call ≡ Some key → IsAtOnly key (outcome_of counts call found).effect
at-outcome_of counts key call found steady is =
    subst (λ k. IsAtOnly k (outcome_of counts call found).effect) (ap (λ (own : Option (List ℕ)). unwrap_or own []) is)
    (outcome_by counts call found (λ outcome. IsAtOnly (key_part (parts_of call)) outcome.effect) (record {
      says = λ reply mute. tt;
      shows = λ item found. tt;
      stores = λ flags value small. refl;
      numbers = λ item number fits. refl;
      takes = refl;
    }) (λ clear. absurd (not_clear (call_row call).acts steady clear)))

-- ---- a shard after an effect

seen-cond : (b : Bool) (item : Option Item) (found : Option Item) → seen (cond b item found) ≡ cond b (seen item) (seen found)
seen-cond true item found = refl
seen-cond false item found = refl

-- what is seen at a key after an effect depends on what was seen there before it
seen_at-state_with : (shards number : ℕ) (state : State) (effect : Effect) (key : List ℕ) → seen_at key (state_with shards number state effect) ≡ seen_after effect key (seen_at key state)
seen_at-state_with shards number state keeps key = refl
seen_at-state_with shards number state (stores at flags value) key =
    let item : Item = record { flags = flags; value = value; unique = unique_of shards number (state.count + 1) } in
    ap seen (get-insert nat_list_cmp_total state.items at item key) ∙ seen-cond (eq_by_cmp (slice_cmp nat_cmp) key at) (Some item) (get state.items key)
seen_at-state_with shards number state (removes at) key =
    ap seen (get-remove nat_list_cmp_total state.items at key) ∙ seen-cond (eq_by_cmp (slice_cmp nat_cmp) key at) None (get state.items key)
seen_at-state_with shards number state empties key = ap seen (get-empty (slice_cmp nat_cmp) key)

-- keys that are apart do not tie
no_tie : (key at : List ℕ) → (at ≡ key → ⊥) → eq_by_cmp (slice_cmp nat_cmp) key at ≡ false
no_tie key at apart = go (slice_cmp nat_cmp key at) refl
  where
    go : (r : Ordering) → slice_cmp nat_cmp key at ≡ r → is_eq r ≡ false
    go Less is = refl
    go Equal is = absurd (apart (sym (slice_cmp-IsAntisymmetric nat_cmp-IsAntisymmetric key at is)))
    go Greater is = refl

-- an effect at one key leaves what is seen at others
seen_after-other : (effect : Effect) (at key : List ℕ) (found : Option Item) → IsAtOnly at effect → (at ≡ key → ⊥) → seen_after effect key found ≡ found
seen_after-other keeps at key found is apart = refl
seen_after-other (stores own flags value) at key found is apart =
    ap (λ b. cond b (Some (record { flags = flags; value = value; unique = 0 })) found) (no_tie key own (λ same. apart (sym is ∙ same)))
seen_after-other (removes own) at key found is apart = ap (λ b. cond b None found) (no_tie key own (λ same. apart (sym is ∙ same)))
seen_after-other empties at key found is apart = absurd is

-- ---- a shard after a call

item-named : (items : Items) (call : Call) (key : List ℕ) → key_of call ≡ Some key → item_at items (key_of call) ≡ get items key
item-named items call key named = ap (item_at items) named

-- shards on which the same is seen at a call's key give it the same answer
pub told-reply_to : (state other : State) (call : Call) (key : List ℕ) → IsSteady call → key_of call ≡ Some key → seen_at key state ≡ seen_at key other
    → told (reply_to state call) ≡ told (reply_to other call)
told-reply_to state other call key steady named same =
    told-outcome_of (tallied state) (tallied other) call (item_at state.items (key_of call)) steady
    ∙ ap (λ found. told (outcome_of (tallied other) call found).reply) (ap seen (item-named state.items call key named) ∙ same ∙ sym (ap seen (item-named other.items call key named)))
    ∙ sym (told-outcome_of (tallied other) (tallied other) call (item_at other.items (key_of call)) steady)

-- and the call has the same effect on them
pub effect-same : (state other : State) (call : Call) (key : List ℕ) → IsSteady call → key_of call ≡ Some key → seen_at key state ≡ seen_at key other
    → (outcome_on state call).effect ≡ (outcome_on other call).effect
effect-same state other call key steady named same =
    effect-outcome_of (tallied state) (tallied other) call (item_at state.items (key_of call)) steady
    ∙ ap (λ found. (outcome_of (tallied other) call found).effect) (ap seen (item-named state.items call key named) ∙ same ∙ sym (ap seen (item-named other.items call key named)))
    ∙ sym (effect-outcome_of (tallied other) (tallied other) call (item_at other.items (key_of call)) steady)

-- so a key at which the same is seen has the same after the call, also where the shards have other numbers
pub seen_at-both : (shards number shards' number' : ℕ) (state other : State) (call : Call) (own key : List ℕ) → IsSteady call → key_of call ≡ Some own
    → seen_at own state ≡ seen_at own other → seen_at key state ≡ seen_at key other → seen_at key (state_after shards number state call) ≡ seen_at key (state_after shards' number' other call)
seen_at-both shards number shards' number' state other call own key steady named same_own same =
    seen_at-state_with shards number state (outcome_on state call).effect key
    ∙ ap (λ effect. seen_after effect key (seen_at key state)) (effect-same state other call own steady named same_own)
    ∙ ap (seen_after (outcome_on other call).effect key) same
    ∙ sym (seen_at-state_with shards' number' other (outcome_on other call).effect key)

-- a call leaves what is seen at other keys
pub seen_at-other : (shards number : ℕ) (state : State) (call : Call) (own key : List ℕ) → IsSteady call → key_of call ≡ Some own → (own ≡ key → ⊥)
    → seen_at key (state_after shards number state call) ≡ seen_at key state
seen_at-other shards number state call own key steady named apart =
    seen_at-state_with shards number state (outcome_on state call).effect key
    ∙ seen_after-other (outcome_on state call).effect own key (seen_at key state) (at-outcome_of (tallied state) own call (item_at state.items (key_of call)) steady named) apart
