-- What a shard answers to calls, by a plain list of its items, which computes.
use Rattle.std.proofs.Common.{◌≡◌, Bool, true, false, cond, not, ℕ, ◌+◌, List, [], ◌∷◌, refl, sym, ap, ◌∙◌}
use Rattle.std.specs.Prelude.{Option, None, Some, filter}
use Rattle.std.specs.Ordering.{nat_cmp, eq_by_cmp, is_eq}
use Rattle.std.specs.Cmp.{alike_right, eq_by_cmp_equiv}
use Rattle.std.specs.Cmp.Lexicographic.{slice_cmp, nat_list_cmp_total}
use Rattle.std.specs.FinMap.{from_entries, remove, get-from_entries, get-remove, same_map, nat_cmp-IsAntisymmetric, slice_cmp-IsAntisymmetric}
use Rattle.std.specs.FinMap.Entries.{find, find-where_key}
use Rattle.mc_calls.specs.declared.item.Item.{Item}
use Rattle.mc_calls.specs.declared.call.Call.{Call}
use Rattle.mc_calls.specs.declared.call_reply.CallReply.{CallReply}
use Rattle.mc_calls.specs.Call.{key_of}
use Rattle.mc_calls.specs.Counted.{CallCounts, calls_with}
use Rattle.mc_calls.specs.Shard.{Items, State, tallied, unique_of, Effect, keeps, stores, removes, empties, Outcome, outcome_of, item_at, state_with, with_calls}
use Rattle.shard_laws.specs.Worked.{answers_from}

-- the pairs of other keys
abbrev without : List ℕ → List (List ℕ × Item) → List (List ℕ × Item)
without key items = filter (λ pair. not (eq_by_cmp (slice_cmp nat_cmp) key pair.0)) items

turned : {A : Type 0} (b : Bool) (x y : A) → cond (not b) x y ≡ cond b y x
turned true x y = refl
turned false x y = refl

-- to leave out the pairs of a key is to remove the key
without_key : (items : List (List ℕ × Item)) (key : List ℕ) → from_entries {R = slice_cmp nat_cmp} (without key items) ≡ remove (from_entries items) key
without_key items key =
    let other : List ℕ → Bool = λ k. not (eq_by_cmp (slice_cmp nat_cmp) key k) in
    same_map nat_list_cmp_total (slice_cmp-IsAntisymmetric nat_cmp-IsAntisymmetric) _ _ (λ q.
    get-from_entries nat_list_cmp_total (filter (λ pair. other pair.0) items) q
    ∙ find-where_key (slice_cmp nat_cmp) other q (λ x tied. ap (λ r. not (is_eq r)) (sym (alike_right nat_list_cmp_total q x key tied))) items
    ∙ turned (eq_by_cmp (slice_cmp nat_cmp) key q) _ _
    ∙ ap (λ b. cond b None (find (slice_cmp nat_cmp) q items)) ((eq_by_cmp_equiv nat_list_cmp_total).symm key q)
    ∙ sym (get-remove nat_list_cmp_total (from_entries items) key q ∙ ap (λ found. cond (eq_by_cmp (slice_cmp nat_cmp) q key) None found) (get-from_entries nat_list_cmp_total items q)))

-- the shard that has these items, this counter and these counts
abbrev plain : List (List ℕ × Item) → ℕ → CallCounts → State
plain items count calls = record { items = from_entries items; count = count; calls = calls }

-- the item of a call's key
abbrev found : List (List ℕ × Item) → Option (List ℕ) → Option Item
found items None = None
found items (Some key) = find (slice_cmp nat_cmp) key items

is_found : (items : List (List ℕ × Item)) (key : Option (List ℕ)) → item_at (from_entries items) key ≡ found items key
is_found items None = refl
is_found items (Some key) = get-from_entries nat_list_cmp_total items key

-- the items and the counter after an effect
abbrev items_with : ℕ → ℕ → List (List ℕ × Item) → ℕ → Effect → List (List ℕ × Item)
items_with shards number items count keeps = items
items_with shards number items count (stores key flags value) = (key, record { flags = flags; value = value; unique = unique_of shards number (count + 1) }) ∷ items
items_with shards number items count (removes key) = without key items
items_with shards number items count empties = []

abbrev count_with : ℕ → Effect → ℕ
count_with count keeps = count
count_with count (stores key flags value) = count + 1
count_with count (removes key) = count
count_with count empties = count

has_effect : (shards number : ℕ) (items : List (List ℕ × Item)) (count : ℕ) (calls : CallCounts) (effect : Effect)
    → state_with shards number (plain items count calls) effect ≡ plain (items_with shards number items count effect) (count_with count effect) calls
has_effect shards number items count calls keeps = refl
has_effect shards number items count calls (stores key flags value) = refl
has_effect shards number items count calls (removes key) = ap (λ (map : Items). record { items = map; count = count; calls = calls }) (sym (without_key items key))
has_effect shards number items count calls empties = refl

-- what a call answers and does there
abbrev outcome_at : List (List ℕ × Item) → ℕ → CallCounts → Call → Outcome
outcome_at items count calls call = outcome_of (tallied (plain items count calls)) call (found items (key_of call))

-- what the shard answers
abbrev pub told : ℕ → ℕ → List (List ℕ × Item) → ℕ → CallCounts → List Call → List CallReply
told shards number items count calls [] = []
told shards number items count calls (call ∷ rest) =
    (outcome_at items count calls call).reply
    ∷ told shards number (items_with shards number items count (outcome_at items count calls call).effect) (count_with count (outcome_at items count calls call).effect)
    (calls_with calls call (outcome_at items count calls call).reply) rest

pub is_told : (shards number : ℕ) (list : List Call) (items : List (List ℕ × Item)) (count : ℕ) (calls : CallCounts)
    → answers_from shards number (plain items count calls) list ≡ told shards number items count calls list
is_told shards number [] items count calls = refl
is_told shards number (call ∷ rest) items count calls =
    let now : State = plain items count calls in
    let outcome : Outcome = outcome_at items count calls call in
    ap (λ (item : Option Item). (outcome_of (tallied now) call item).reply
    ∷ answers_from shards number (with_calls (state_with shards number now (outcome_of (tallied now) call item).effect) (calls_with calls call (outcome_of (tallied now) call item).reply)) rest) (is_found items (key_of call))
    ∙ ap (λ (state : State). outcome.reply ∷ answers_from shards number (with_calls state (calls_with calls call outcome.reply)) rest) (has_effect shards number items count calls outcome.effect)
    ∙ ap (λ (replies : List CallReply). outcome.reply ∷ replies) (is_told shards number rest (items_with shards number items count outcome.effect) (count_with count outcome.effect) (calls_with calls call outcome.reply))
