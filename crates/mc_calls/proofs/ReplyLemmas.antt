-- The values in the replies of a legal list are within their bound if those in its calls are.
use Rattle.std.specs.Prelude.{◌==◌, if◌then◌else◌, decimal, Option, None, Some}
use Rattle.std.specs.List.{AllByRecursion}
use Rattle.std.specs.Ordering.{nat_cmp, eq_by_cmp}
use Rattle.std.specs.Cmp.Lexicographic.{slice_cmp, nat_list_cmp_total}
use Rattle.std.specs.FinMap.{get, get-empty, get-insert, get-remove}
use Rattle.std.proofs.Common.{ℕ, ◌+◌, ◌^◌, ◌<◌, List, [], ◌∷◌, Bool, true, false, cond, sym, subst, arith}
use Rattle.std.proofs.lemmas.Fmt.{length-decimal-le}
use Rattle.mc_calls.specs.declared.item.Item.{Item}
use Rattle.mc_calls.specs.declared.call.Call.{Call}
use Rattle.mc_calls.specs.declared.call_reply.CallReply.{CallReply}
use Rattle.mc_calls.specs.declared.call_reply.CallReply.TheVariants as Replies
use Rattle.mc_calls.specs.declared.entry.Entry.{Entry}
use Rattle.mc_calls.specs.declared.tallied.Tallied.{Tallied}
use Rattle.mc_calls.specs.Shard.{State, Outcome, Effect, keeps, stores, removes, empties, empty_state, tallied, outcome_of, item_at, state_after, state_with, unique_of}
use Rattle.mc_calls.specs.Kind.{IsTrue}
use Rattle.mc_calls.proofs.TableLemmas.{is_mute, value_small}
use Rattle.mc_calls.proofs.KindLemmas.{outcome_by}
use Rattle.mc_calls.specs.Call.{key_of}
use Rattle.mc_calls.specs.History.{IsLegalFrom, IsLegal, states_after}
use Rattle.mc_calls.specs.Bounds.{IsValue, IsCall, IsReply, IsFound, AreItems, IsEffect, IsCallWithin}

-- ---- one call

-- an outcome within the bounds
abbrev IsOutcome : Outcome → Type 0
IsOutcome o = IsReply o.reply × IsEffect o.effect

digits_small : (n : ℕ) → n < 2 ^ 64 → IsValue (decimal n)
digits_small n fits = let most = length-decimal-le 20 n (omega arith) (omega arith) fits in omega arith

-- a reply without an item is within its bound
mute_within : (reply : CallReply) → IsTrue (is_mute reply) → IsReply reply
mute_within (Replies.Hit flags unique value) mute = absurd mute
mute_within reply mute = tt

outcome_within : (counts : Tallied) (call : Call) (found : Option Item) → IsCall call → IsFound found → IsOutcome (outcome_of counts call found)
outcome_within counts call found is small = outcome_by counts call found IsOutcome (record {
  says = λ reply mute. (mute_within reply mute, tt);
  shows = λ item there. (subst IsFound there small, tt);
  stores = λ flags value within. (tt, within (value_small call is));
  numbers = λ item number fits. (tt, digits_small number fits);
  takes = (tt, tt);
}) (λ clear. (tt, tt))

-- ---- one shard

item_within : (state : State) (key : Option (List ℕ)) → AreItems state → IsFound (item_at state.items key)
item_within state None are = tt
item_within state (Some key) are = are key

chosen_found : (b : Bool) (x y : Option Item) → IsFound x → IsFound y → IsFound (cond b x y)
chosen_found true x y a b = a
chosen_found false x y a b = b

effect_within : (shards number : ℕ) (state : State) (effect : Effect) → IsEffect effect → AreItems state → AreItems (state_with shards number state effect)
effect_within shards number state keeps small are key = are key
effect_within shards number state (stores k flags value) small are key =
    let item : Item = record { flags = flags; value = value; unique = unique_of shards number (state.count + 1) } in
    subst IsFound (sym (get-insert nat_list_cmp_total state.items k item key)) (chosen_found (eq_by_cmp (slice_cmp nat_cmp) key k) (Some item) (get state.items key) small (are key))
effect_within shards number state (removes k) small are key =
    subst IsFound (sym (get-remove nat_list_cmp_total state.items k key)) (chosen_found (eq_by_cmp (slice_cmp nat_cmp) key k) None (get state.items key) tt (are key))
effect_within shards number state empties small are key = subst IsFound (sym (get-empty (slice_cmp nat_cmp) key)) tt

empty_within : AreItems empty_state
empty_within key = subst IsFound (sym (get-empty (slice_cmp nat_cmp) key)) tt

call_within : (state : State) (call : Call) → IsCall call → AreItems state → IsOutcome (outcome_of (tallied state) call (item_at state.items (key_of call)))
call_within state call is are = outcome_within (tallied state) call (item_at state.items (key_of call)) is (item_within state (key_of call) are)

-- ---- all shards

after_within : (shards : ℕ) (states : ℕ → State) (e : Entry) → IsCall e.call → ((number : ℕ) → AreItems (states number)) → (number : ℕ) → AreItems (states_after shards states e number)
after_within shards states e is are number = go (number == e.shard)
  where
    go : (b : Bool) → AreItems (if b then state_after shards e.shard (states e.shard) e.call else states number)
    go true = effect_within shards e.shard (states e.shard) _ (call_within (states e.shard) e.call is (are e.shard)).1 (are e.shard)
    go false = are number

replies_from : (n shards : ℕ) (states : ℕ → State) (es : List Entry) → IsLegalFrom shards states es → AllByRecursion (IsCallWithin n) es
    → ((number : ℕ) → AreItems (states number)) → AllByRecursion (λ (e : Entry). IsReply e.reply) es
replies_from n shards states [] legal calls are = tt
replies_from n shards states (e ∷ es) legal calls are = (
  subst IsReply (sym legal.1) (call_within (states e.shard) e.call calls.0.0 (are e.shard)).0,
  replies_from n shards (states_after shards states e) es legal.2 calls.1 (after_within shards states e calls.0.0 are),
)

-- the replies of a legal list are within their bounds
pub replies_within : (n shards : ℕ) (es : List Entry) → IsLegal shards es → AllByRecursion (IsCallWithin n) es → AllByRecursion (λ (e : Entry). IsReply e.reply) es
replies_within n shards es legal calls = replies_from n shards (λ number. empty_state) es legal calls (λ number. empty_within)
