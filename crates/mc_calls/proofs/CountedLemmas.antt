-- What a shard counts in a replay is counted from the entries alone.
use Rattle.std.specs.Prelude.{count_by, is_some, unwrap_or, decimal, Option, None, Some, ⊤}
use Rattle.std.proofs.Common.{◌≡◌, ℕ, ◌+◌, ◌-◌, ◌≤◌, Bool, true, false, cond, List, [], ◌∷◌, length, refl, sym, ap, ◌∙◌, subst, arith}
use Rattle.std.proofs.lemmas.List.Sums.{sum_by-cons, count_by-le-length}
use Rattle.std.specs.Ordering.{nat_cmp, eq_by_cmp}
use Rattle.std.specs.Cmp.Lexicographic.{slice_cmp, nat_list_cmp_total}
use Rattle.std.specs.FinMap.{empty, get, contains_key, insert, remove, len, get-empty, get-insert, get-remove, len-empty, len-insert, len-remove}
use Rattle.mc_calls.specs.declared.item.Item.{Item}
use Rattle.mc_calls.specs.declared.call.Call.{Call}
use Rattle.mc_calls.specs.declared.call_reply.CallReply.{CallReply}
use Rattle.mc_calls.specs.declared.call_reply.CallReply.TheVariants.{Stored, Number, Deleted}
use Rattle.mc_calls.specs.declared.entry.Entry.{Entry}
use Rattle.mc_calls.specs.declared.tallied.Tallied.{Tallied}
use Rattle.mc_calls.specs.Call.{key_of}
use Rattle.mc_calls.specs.Table.{CallParts, parts_of, key_part, Acts, clears, always, by_item}
use Rattle.mc_calls.specs.Code.{call_row, call_kind}
use Rattle.mc_calls.specs.Kind.{IsTrue}
use Rattle.mc_calls.proofs.TableLemmas.{is_mute, say_mute, rows_say, are_single, rows_single, is_clear, are_at, calls_at}
use Rattle.mc_calls.proofs.KindLemmas.{Outcomes, acts_by, bare_by}
use Rattle.mc_calls.specs.Counted.{is_get, is_set, is_hit, is_miss, one_more_if, KeySet, no_keys, keys_by, keys_past, keys_with, keys_after, counted}
use Rattle.mc_calls.specs.Shard.{Items, State, empty_state, tallied, Outcome, answers, stored, done_of, outcome_of, item_at, reply_to, state_with, state_after}
use Rattle.mc_calls.specs.History.{IsReplay, replayed}

-- ---- calls

one_more : (test : Bool) (rest count : ℕ) → rest + one_more_if test count ≡ cond test 1 0 + rest + count
one_more true rest count = omega arith
one_more false rest count = omega arith

gets_are : (shards number : ℕ) (state : State) (es : List Entry)
    → (replayed shards number state es).calls.gets ≡ count_by (λ (e : Entry). is_get e.call) es + state.calls.gets
gets_are shards number state [] = omega arith
gets_are shards number state (e ∷ es) =
    gets_are shards number (state_after shards number state e.call) es
    ∙ one_more (is_get e.call) (count_by (λ (e : Entry). is_get e.call) es) state.calls.gets
    ∙ ap (λ n. n + state.calls.gets) (sym (sum_by-cons (λ (e : Entry). cond (is_get e.call) 1 0) e es))

sets_are : (shards number : ℕ) (state : State) (es : List Entry)
    → (replayed shards number state es).calls.sets ≡ count_by (λ (e : Entry). is_set e.call) es + state.calls.sets
sets_are shards number state [] = omega arith
sets_are shards number state (e ∷ es) =
    sets_are shards number (state_after shards number state e.call) es
    ∙ one_more (is_set e.call) (count_by (λ (e : Entry). is_set e.call) es) state.calls.sets
    ∙ ap (λ n. n + state.calls.sets) (sym (sum_by-cons (λ (e : Entry). cond (is_set e.call) 1 0) e es))

hits_are : (shards number : ℕ) (state : State) (es : List Entry) → IsReplay shards number state es
    → (replayed shards number state es).calls.hits ≡ count_by (λ (e : Entry). is_hit e.call e.reply) es + state.calls.hits
hits_are shards number state [] replay = omega arith
hits_are shards number state (e ∷ es) replay =
    let rest : ℕ = count_by (λ (e : Entry). is_hit e.call e.reply) es in
    hits_are shards number (state_after shards number state e.call) es replay.1
    ∙ one_more (is_hit e.call (reply_to state e.call)) rest state.calls.hits
    ∙ ap (λ reply. cond (is_hit e.call reply) 1 0 + rest + state.calls.hits) (sym replay.0)
    ∙ ap (λ n. n + state.calls.hits) (sym (sum_by-cons (λ (e : Entry). cond (is_hit e.call e.reply) 1 0) e es))

misses_are : (shards number : ℕ) (state : State) (es : List Entry) → IsReplay shards number state es
    → (replayed shards number state es).calls.misses ≡ count_by (λ (e : Entry). is_miss e.call e.reply) es + state.calls.misses
misses_are shards number state [] replay = omega arith
misses_are shards number state (e ∷ es) replay =
    let rest : ℕ = count_by (λ (e : Entry). is_miss e.call e.reply) es in
    misses_are shards number (state_after shards number state e.call) es replay.1
    ∙ one_more (is_miss e.call (reply_to state e.call)) rest state.calls.misses
    ∙ ap (λ reply. cond (is_miss e.call reply) 1 0 + rest + state.calls.misses) (sym replay.0)
    ∙ ap (λ n. n + state.calls.misses) (sym (sum_by-cons (λ (e : Entry). cond (is_miss e.call e.reply) 1 0) e es))

-- ---- keys

-- the keys are those of the items
record AreKeys (keys : KeySet) (items : Items) : Type 0 where
  each : (key : List ℕ) → contains_key keys key ≡ contains_key items key
  size : len keys ≡ len items

no_items : AreKeys no_keys empty
no_items = record {
  each = λ key. ap is_some (get-empty (slice_cmp nat_cmp) key) ∙ sym (ap is_some (get-empty (slice_cmp nat_cmp) key));
  size = len-empty (slice_cmp nat_cmp) ⊤ ∙ sym (len-empty (slice_cmp nat_cmp) Item);
}

is_some-put : {X : Type 0} (test : Bool) (x : X) (found : Option X) → is_some (cond test (Some x) found) ≡ cond test true (is_some found)
is_some-put true x found = refl
is_some-put false x found = refl

is_some-taken : {X : Type 0} (test : Bool) (found : Option X) → is_some (cond test None found) ≡ cond test false (is_some found)
is_some-taken true found = refl
is_some-taken false found = refl

after_put : (keys : KeySet) (items : Items) (key : List ℕ) (item : Item) → AreKeys keys items → AreKeys (insert keys key tt) (insert items key item)
after_put keys items key item are = record {
  each = λ at.
      ap is_some (get-insert nat_list_cmp_total keys key tt at) ∙ is_some-put (eq_by_cmp (slice_cmp nat_cmp) at key) tt (get keys at)
      ∙ ap (cond (eq_by_cmp (slice_cmp nat_cmp) at key) true) (are.each at)
      ∙ sym (ap is_some (get-insert nat_list_cmp_total items key item at) ∙ is_some-put (eq_by_cmp (slice_cmp nat_cmp) at key) item (get items at));
  size =
      len-insert nat_list_cmp_total keys key tt
      ∙ ap (λ has. cond has (len keys) (len keys + 1)) (are.each key)
      ∙ ap (λ size. cond (contains_key items key) size (size + 1)) are.size
      ∙ sym (len-insert nat_list_cmp_total items key item);
}

after_taken : (keys : KeySet) (items : Items) (key : List ℕ) → AreKeys keys items → AreKeys (remove keys key) (remove items key)
after_taken keys items key are = record {
  each = λ at.
      ap is_some (get-remove nat_list_cmp_total keys key at) ∙ is_some-taken (eq_by_cmp (slice_cmp nat_cmp) at key) (get keys at)
      ∙ ap (cond (eq_by_cmp (slice_cmp nat_cmp) at key) false) (are.each at)
      ∙ sym (ap is_some (get-remove nat_list_cmp_total items key at) ∙ is_some-taken (eq_by_cmp (slice_cmp nat_cmp) at key) (get items at));
  size =
      len-remove nat_list_cmp_total keys key
      ∙ ap (λ has. cond has (len keys - 1) (len keys)) (are.each key)
      ∙ ap (λ size. cond (contains_key items key) (size - 1) size) are.size
      ∙ sym (len-remove nat_list_cmp_total items key);
}

module _ (shards number : ℕ) (state : State) (keys : KeySet) (are : AreKeys keys state.items) where
  -- the keys after this outcome at a key
  abbrev After : Option (List ℕ) → Outcome → Type 0
  After key outcome = AreKeys (keys_by key outcome.reply keys) (state_with shards number state outcome.effect).items

  put : (key : List ℕ) (flags : ℕ) (value : List ℕ) → AreKeys (insert keys key tt) (state_with shards number state (stored key flags value).effect).items
  put key flags value = after_put keys state.items key _ are

  -- a reply alone leaves the keys
  mute_keys : (key : Option (List ℕ)) (reply : CallReply) → IsTrue (is_mute reply) → After key (answers reply)
  mute_keys None reply mute = are
  mute_keys (Some key) Stored mute = absurd mute
  mute_keys (Some key) (Number number) mute = absurd mute
  mute_keys (Some key) Deleted mute = absurd mute
  mute_keys (Some key) reply mute = are

  module _ (counts : Tallied) (call : CallParts) (found : Option Item) where
    -- after an outcome at the key of a call
    each : Outcomes call found (After (Some (key_part call)))
    each = record {
      says = mute_keys (Some (key_part call));
      shows = λ item there. are;
      stores = λ flags value small. put (key_part call) flags value;
      numbers = λ item number fits. put (key_part call) item.flags (decimal number);
      takes = after_taken keys state.items (key_part call) are;
    }

    at_key : (acts : Acts) (key : List ℕ) → call.key ≡ Some key → IsTrue (say_mute acts) → IsTrue (are_single acts) → (IsTrue (is_clear acts) → ⊥) → After (Some key) (done_of counts call acts found)
    at_key acts key own mute single other =
        subst (λ k. After (Some k) (done_of counts call acts found)) (ap (λ (k : Option (List ℕ)). unwrap_or k []) own)
        (acts_by counts call found (After (Some (key_part call))) each acts found refl mute single (λ clear. absurd (other clear)))

    no_key : (acts : Acts) → IsTrue (say_mute acts) → IsTrue (are_at false acts) → (IsTrue (is_clear acts) → ⊥) → After None (done_of counts call acts found)
    no_key acts mute at other = bare_by counts call found (After None) (mute_keys None) (λ item. are) acts mute at (λ clear. absurd (other clear))

    after_acts : (acts : Acts) (key : Option (List ℕ)) → call.key ≡ key → IsTrue (say_mute acts) → IsTrue (are_single acts) → IsTrue (are_at (is_some key) acts)
        → AreKeys (keys_past acts key (done_of counts call acts found).reply keys) (state_with shards number state (done_of counts call acts found).effect).items
    after_acts (always clears) key own mute single at = no_items
    after_acts (always act) (Some key) own mute single at = at_key (always act) key own mute single (λ clear. clear)
    after_acts (always act) None own mute single at = no_key (always act) mute at (λ clear. clear)
    after_acts (by_item without with) (Some key) own mute single at = at_key (by_item without with) key own mute single (λ clear. clear)
    after_acts (by_item without with) None own mute single at = no_key (by_item without with) mute at (λ clear. clear)

  after_outcome : (counts : Tallied) (call : Call) (found : Option Item)
      → AreKeys (keys_with keys call (outcome_of counts call found).reply) (state_with shards number state (outcome_of counts call found).effect).items
  after_outcome counts call found =
      after_acts counts (parts_of call) found (call_row call).acts (key_of call) refl (rows_say (call_kind call)) (rows_single (call_kind call)) (calls_at call)

keys_are : (shards number : ℕ) (state : State) (keys : KeySet) (es : List Entry) → AreKeys keys state.items → IsReplay shards number state es
    → AreKeys (keys_after keys es) (replayed shards number state es).items
keys_are shards number state keys [] are replay = are
keys_are shards number state keys (e ∷ es) are replay =
    let next = after_outcome shards number state keys are (tallied state) e.call (item_at state.items (key_of e.call)) in
    keys_are shards number (state_after shards number state e.call) (keys_with keys e.call e.reply) es
    (subst (λ reply. AreKeys (keys_with keys e.call reply) (state_after shards number state e.call).items) (sym replay.0) next) replay.1

-- ---- a replay

-- what a shard counts is counted from its entries
pub tallied-replayed : (shards number : ℕ) (es : List Entry) → IsReplay shards number empty_state es → tallied (replayed shards number empty_state es) ≡ counted es
tallied-replayed shards number es replay =
    let gets = gets_are shards number empty_state es in
    let sets = sets_are shards number empty_state es in
    let hits = hits_are shards number empty_state es replay in
    let misses = misses_are shards number empty_state es replay in
    let gets' : (replayed shards number empty_state es).calls.gets ≡ (counted es).gets = omega (arith, gets) in
    let sets' : (replayed shards number empty_state es).calls.sets ≡ (counted es).sets = omega (arith, sets) in
    let hits' : (replayed shards number empty_state es).calls.hits ≡ (counted es).hits = omega (arith, hits) in
    let misses' : (replayed shards number empty_state es).calls.misses ≡ (counted es).misses = omega (arith, misses) in
    let items' = sym (keys_are shards number empty_state no_keys es no_items replay).size in
    λ i. record { gets = gets' i; sets = sets' i; hits = hits' i; misses = misses' i; items = items' i }

-- neither the gets nor the calls that store a value are more than the entries
pub gets_within : (shards number : ℕ) (es : List Entry) → (replayed shards number empty_state es).calls.gets ≤ length es
gets_within shards number es =
    let is = gets_are shards number empty_state es in
    let most = count_by-le-length (λ (e : Entry). is_get e.call) es in
    omega (arith, is, most)

pub sets_within : (shards number : ℕ) (es : List Entry) → (replayed shards number empty_state es).calls.sets ≤ length es
sets_within shards number es =
    let is = sets_are shards number empty_state es in
    let most = count_by-le-length (λ (e : Entry). is_set e.call) es in
    omega (arith, is, most)
