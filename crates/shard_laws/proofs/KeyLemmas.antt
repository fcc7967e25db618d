-- The replies to the calls on one key, CAS values aside, depend only on these calls and the
-- flushes.
use Rattle.std.proofs.Common.{◌≡◌, ℕ, Bool, true, false, cond, List, [], ◌∷◌, ◌++◌, length, refl, sym, ap, ◌∙◌}
use Rattle.std.specs.Prelude.{◌&&◌, Option, None, Some, nat_lt}
use Rattle.std.specs.Ordering.{nat_cmp}
use Rattle.std.specs.Cmp.Lexicographic.{slice_cmp, nat_list_cmp_total}
use Rattle.std.specs.FinMap.{get, get-empty, get-insert, get-remove}
use Rattle.mc_calls.specs.declared.item.Item.{Item}
use Rattle.mc_calls.specs.declared.call.Call.{Call}
use Rattle.mc_calls.specs.declared.call.Call.TheVariants.{Cas, Tally}
use Rattle.mc_calls.specs.Table.{CallParts, parts_of, key_part, number_part, value_part, Act, Acts, says, shows, appends, prepends, exchanges, counts_up, counts_down, takes, tallies, always, by_item}
use Rattle.mc_calls.specs.Code.{call_row, call_kind}
use Rattle.mc_calls.specs.Kind.{IsTrue}
use Rattle.mc_calls.proofs.TableLemmas.{holds_both, says_mute, say_mute, rows_say}
use Rattle.mc_calls.specs.declared.call_reply.CallReply.{CallReply}
use Rattle.mc_calls.specs.declared.call_reply.CallReply.TheVariants.{Hit, Stored, TooLarge}
use Rattle.mc_calls.specs.declared.tallied.Tallied.{Tallied}
use Rattle.mc_calls.specs.Call.{key_of}
use Rattle.zy_base.specs.Number.{number_of}
use Rattle.mc_calls.specs.Shard.{State, tallied, Effect, keeps, stores, removes, empties, Outcome, value_limit, joined, counted_up, counted_down, done, done_of, outcome_of, outcome_on, state_with, state_after, reply_to}
use Rattle.mc_allows.proofs.KeyLemmas.{IsFor, effect_for, chosen, about_key, finds, untouched}
use Rattle.shard_laws.specs.KeyReplies.{is_cas, AreWithoutCas, is_same, is_own_key, is_about, calls_about, without_unique, replies_about}

-- ---- one key without uniques

-- an item without its unique
abbrev plain_item : Item → Item
plain_item item = record { flags = item.flags; value = item.value; unique = 0 }

-- the item of a key, without the unique
abbrev plain : Option Item → Option Item
plain None = None
plain (Some item) = Some (plain_item item)

-- the item of a key after an effect on it, without the unique
abbrev plain_after : Option Item → Effect → Option Item
plain_after found keeps = found
plain_after found (stores key flags value) = Some (record { flags = flags; value = value; unique = 0 })
plain_after found (removes key) = None
plain_after found empties = None

-- what a shard counts, of which calls on a key do not depend
abbrev nothing : Tallied
nothing = record { gets = 0; sets = 0; hits = 0; misses = 0; items = 0 }

-- the replies to the calls on one key, which has this item at first
abbrev replies_from : Option Item → List Call → List CallReply
replies_from found [] = []
replies_from found (call ∷ calls) = (outcome_of nothing call found).reply ∷ replies_from (plain_after found (outcome_of nothing call found).effect) calls

-- an outcome without the unique that it shows
abbrev plain_outcome : Outcome → Outcome
plain_outcome outcome = record { reply = without_unique outcome.reply; effect = outcome.effect }

plain-joined : (key : List ℕ) (item : Item) (value : List ℕ) → plain_outcome (joined key item value) ≡ joined key (plain_item item) value
plain-joined key item value = go (nat_lt value_limit (length value))
  where
    go : (b : Bool) → plain_outcome (cond b (record { reply = TooLarge; effect = keeps }) (record { reply = Stored; effect = stores key item.flags value })) ≡ cond b (record { reply = TooLarge; effect = keeps }) (record { reply = Stored; effect = stores key item.flags value })
    go true = refl
    go false = refl

plain-counted_up : (key : List ℕ) (item : Item) (amount : ℕ) (number : Option ℕ) → plain_outcome (counted_up key item amount number) ≡ counted_up key (plain_item item) amount number
plain-counted_up key item amount None = refl
plain-counted_up key item amount (Some number) = refl

plain-counted_down : (key : List ℕ) (item : Item) (amount : ℕ) (number : Option ℕ) → plain_outcome (counted_down key item amount number) ≡ counted_down key (plain_item item) amount number
plain-counted_down key item amount None = refl
plain-counted_down key item amount (Some number) = refl

-- what an act reads that is no unique, and no count of the shard
abbrev reads_none : Act → Bool
reads_none exchanges = false
reads_none tallies = false
reads_none act = true

abbrev read_none : Acts → Bool
read_none (always act) = reads_none act
read_none (by_item without with) = reads_none without && reads_none with

plain-done : (counts : Tallied) (call : CallParts) (act : Act) (found : Option Item) → IsTrue (reads_none act) → IsTrue (says_mute act)
    → plain_outcome (done counts call act found) ≡ done nothing call act (plain found)
plain-done counts call (says (Hit flags unique value)) found reads mute = absurd mute
plain-done counts call shows (Some item) reads mute = refl
plain-done counts call appends (Some item) reads mute = plain-joined (key_part call) item (item.value ++ (value_part call))
plain-done counts call prepends (Some item) reads mute = plain-joined (key_part call) item ((value_part call) ++ item.value)
plain-done counts call exchanges found reads mute = absurd reads
plain-done counts call counts_up (Some item) reads mute = plain-counted_up (key_part call) item (number_part call) (number_of item.value)
plain-done counts call counts_down (Some item) reads mute = plain-counted_down (key_part call) item (number_part call) (number_of item.value)
plain-done counts call takes (Some item) reads mute = refl
plain-done counts call tallies found reads mute = absurd reads
plain-done counts call act found reads mute = refl

plain-done_of : (counts : Tallied) (call : CallParts) (acts : Acts) (found : Option Item) → IsTrue (read_none acts) → IsTrue (say_mute acts)
    → plain_outcome (done_of counts call acts found) ≡ done_of nothing call acts (plain found)
plain-done_of counts call (always act) found reads mute = plain-done counts call act found reads mute
plain-done_of counts call (by_item without with) None reads mute = plain-done counts call without None (holds_both _ _ reads).0 (holds_both _ _ mute).0
plain-done_of counts call (by_item without with) (Some item) reads mute = plain-done counts call with (Some item) (holds_both _ _ reads).1 (holds_both _ _ mute).1

-- without a cas, no unique is read; a tally is not on a key
reads-call : (key : List ℕ) (call : Call) → is_about key call ≡ true → is_cas call ≡ false → IsTrue (read_none (call_row call).acts)
reads-call key (Cas flags at unique value) about is = absurd (cc)
reads-call key Tally about is = absurd (cc)
reads-call key call about is = tt

plain-outcome_of : (counts : Tallied) (key : List ℕ) (call : Call) (found : Option Item) → is_about key call ≡ true → is_cas call ≡ false → plain_outcome (outcome_of counts call found) ≡ outcome_of nothing call (plain found)
plain-outcome_of counts key call found about is =
    plain-done_of counts (parts_of call) (call_row call).acts found (reads-call key call about is) (rows_say (call_kind call))

-- ---- a call on the key

-- the item of the key itself
here : (shards number : ℕ) (state : State) (key : List ℕ) (on : Option (List ℕ)) (effect : Effect) → IsFor on effect → is_own_key key on ≡ true
    → plain (get (state_with shards number state effect).items key) ≡ plain_after (plain (get state.items key)) effect
here shards number state key on keeps for is = refl
here shards number state key None (stores k flags value) for is = absurd for
here shards number state key None (removes k) for is = absurd for
here shards number state key None empties for is = ap plain (get-empty (slice_cmp nat_cmp) key)
here shards number state key (Some on) (stores k flags value) for is =
    ap plain (get-insert nat_list_cmp_total state.items k _ key ∙ chosen (is_same key k) _ _ (ap (is_same key) for ∙ is))
here shards number state key (Some on) (removes k) for is =
    ap plain (get-remove nat_list_cmp_total state.items k key ∙ chosen (is_same key k) _ _ (ap (is_same key) for ∙ is))
here shards number state key (Some on) empties for is = absurd for

plain-outcome_on : (state : State) (key : List ℕ) (call : Call) → is_about key call ≡ true → is_cas call ≡ false → plain_outcome (outcome_on state call) ≡ outcome_of nothing call (plain (get state.items key))
plain-outcome_on state key call is no_cas = ap plain_outcome (finds state key call is) ∙ plain-outcome_of (tallied state) key call (get state.items key) is no_cas

-- ---- along a list

step : (shards number : ℕ) (state : State) (key : List ℕ) (call : Call) (rest : List CallReply) (calls : List Call) (b : Bool) → is_about key call ≡ b → is_cas call ≡ false
    → rest ≡ replies_from (plain (get (state_after shards number state call).items key)) calls
    → cond b (without_unique (reply_to state call) ∷ rest) rest ≡ replies_from (plain (get state.items key)) (cond b (call ∷ calls) calls)
step shards number state key call rest calls true is no_cas more =
    let outcome : plain_outcome (outcome_on state call) ≡ outcome_of nothing call (plain (get state.items key)) = plain-outcome_on state key call is no_cas in
    let after : plain (get (state_after shards number state call).items key) ≡ plain_after (plain (get state.items key)) (outcome_of nothing call (plain (get state.items key))).effect =
    here shards number state key (key_of call) (outcome_on state call).effect (effect_for (tallied state) call _) (about_key key call is) ∙ ap (λ o. plain_after (plain (get state.items key)) o.effect) outcome in
    (λ i. (outcome i).reply ∷ (more ∙ ap (λ found. replies_from found calls) after) i)
step shards number state key call rest calls false is no_cas more =
    more ∙ ap (λ found. replies_from (plain found) calls) (untouched shards number state key call is)

-- the replies are those of the calls on the key, made on the item of the key
pub replies_alone : (shards number : ℕ) (state : State) (key : List ℕ) (calls : List Call) → AreWithoutCas calls
    → replies_about shards number state key calls ≡ replies_from (plain (get state.items key)) (calls_about key calls)
replies_alone shards number state key [] no_cas = refl
replies_alone shards number state key (call ∷ calls) no_cas =
    step shards number state key call (replies_about shards number (state_after shards number state call) key calls) (calls_about key calls) (is_about key call) refl no_cas.0
    (replies_alone shards number (state_after shards number state call) key calls no_cas.1)

-- two lists with the same calls on a key have the same replies to them
pub replies_agree : (shards number shards' number' : ℕ) (state : State) (key : List ℕ) (calls calls' : List Call) → AreWithoutCas calls → AreWithoutCas calls' → calls_about key calls ≡ calls_about key calls'
    → replies_about shards number state key calls ≡ replies_about shards' number' state key calls'
replies_agree shards number shards' number' state key calls calls' no_cas no_cas' same =
    replies_alone shards number state key calls no_cas
    ∙ ap (replies_from (plain (get state.items key))) same
    ∙ sym (replies_alone shards' number' state key calls' no_cas')
