-- What is counted of the items and of the calls of a shard, along changes and calls.
use Rattle.std.proofs.Common.{◌≡◌, ℕ, ◌+◌, ◌-◌, ◌<◌, ◌≤◌, ◌^◌, Bool, true, false, cond, List, refl, sym, ap, subst, ◌∙◌, ⊎_elim, arith}
use Rattle.std.specs.Prelude.{is_some}
use Rattle.std.proofs.Math.Nat.{eq-zero-or-pos}
use Rattle.std.specs.Ordering.{nat_cmp}
use Rattle.std.specs.Cmp.Lexicographic.{slice_cmp, nat_list_cmp_total}
use Rattle.std.specs.FinMap.{get, empty, insert, remove, contains_key, len, get-empty, empty_of_len, len-empty, len-insert, len-remove}
use Rattle.mc_calls.specs.declared.item.Item.{Item}
use Rattle.mc_calls.specs.declared.entry.Entry.{Entry}
use Rattle.mc_calls.specs.Shard.{Items, State, empty_state}
use Rattle.mc_calls.specs.History.{replayed}
use Rattle.mc_calls.specs.Order.{last_stamp}
use Rattle.mc_calls.proofs.EntryLemmas.{StampsRise-length}
use Rattle.mc_calls.proofs.CountedLemmas.{gets_within, sets_within}
use Rattle.mc_stats.specs.declared.counts.Counts.{Counts}
use Rattle.mc_stats.specs.Counts.{no_counts, with_item, without_item, without_items}
use Rattle.mc_shard.specs.Contents.{call_counts_in, AreCounts, IsSound}

-- ---- items

pub counts_none : AreCounts no_counts 0 empty
counts_none = record { items_are = sym (len-empty (slice_cmp nat_cmp) Item); few_items = omega arith; few_hits = omega arith; few_misses = omega arith }

pub counts_cleared : (counts : Counts) (count : ℕ) (items : Items) → AreCounts counts count items → AreCounts (without_items counts) count empty
counts_cleared counts count items are = record { items_are = sym (len-empty (slice_cmp nat_cmp) Item); few_items = omega arith; few_hits = are.few_hits; few_misses = are.few_misses }

-- an item is put at a key, which had one or not
pub counts_put : (counts : Counts) (count : ℕ) (items : Items) (key : List ℕ) (item : Item) (had : Bool) → contains_key items key ≡ had
    → AreCounts counts count items → AreCounts (cond had counts (with_item counts)) (count + 1) (insert items key item)
counts_put counts count items key item true is are = record {
  items_are = are.items_are ∙ sym (len-insert nat_list_cmp_total items key item ∙ ap (λ has. cond has (len items) (len items + 1)) is);
  few_items = (let few = are.few_items in omega (arith, few));
  few_hits = are.few_hits;
  few_misses = are.few_misses;
}
counts_put counts count items key item false is are = record {
  items_are = ap (λ n. n + 1) are.items_are ∙ sym (len-insert nat_list_cmp_total items key item ∙ ap (λ has. cond has (len items) (len items + 1)) is);
  few_items = (let few = are.few_items in omega (arith, few));
  few_hits = are.few_hits;
  few_misses = are.few_misses;
}

-- the item of a key is removed, where it has one
pub counts_removed : (counts : Counts) (count : ℕ) (items : Items) (key : List ℕ) (had : Bool) → contains_key items key ≡ had
    → AreCounts counts count items → AreCounts (cond had (without_item counts) counts) count (remove items key)
counts_removed counts count items key true is are = record {
  items_are = ap (λ n. n - 1) are.items_are ∙ sym (len-remove nat_list_cmp_total items key ∙ ap (λ has. cond has (len items - 1) (len items)) is);
  few_items = (let few = are.few_items in omega (arith, few));
  few_hits = are.few_hits;
  few_misses = are.few_misses;
}
counts_removed counts count items key false is are = record {
  items_are = are.items_are ∙ sym (len-remove nat_list_cmp_total items key ∙ ap (λ has. cond has (len items - 1) (len items)) is);
  few_items = are.few_items;
  few_hits = are.few_hits;
  few_misses = are.few_misses;
}

-- the counts of calls stay
pub calls-put : (counts : Counts) (had : Bool) → call_counts_in (cond had counts (with_item counts)) ≡ call_counts_in counts
calls-put counts true = refl
calls-put counts false = refl

pub calls-removed : (counts : Counts) (had : Bool) → call_counts_in (cond had (without_item counts) counts) ≡ call_counts_in counts
calls-removed counts true = refl
calls-removed counts false = refl

-- a shard that has an item counts one
pub some_items : (counts : Counts) (count : ℕ) (items : Items) (key : List ℕ) → contains_key items key ≡ true → AreCounts counts count items → 1 ≤ counts.items
some_items counts count items key is are =
    ⊎_elim (λ zero. absurd (none zero)) (λ some. (let same = are.items_are in omega (arith, same, some))) (eq-zero-or-pos (len items))
  where
    none : len items ≡ 0 → ⊥
    none zero =
        let gone : contains_key items key ≡ false = ap (λ (m : Items). is_some (get m key)) (empty_of_len items zero) ∙ ap is_some (get-empty (slice_cmp nat_cmp) key) in
        cc

-- ---- a shard with a history

-- there are fewer calls than stamps
pub few_gets : (number shards last : ℕ) (contents : State) (es : List Entry) → IsSound number shards last contents es → last_stamp 0 es < 2 ^ 60 → contents.calls.gets < 2 ^ 60
few_gets number shards last contents es sound below =
    let size = StampsRise-length 0 es sound.history_is.stamps in
    let most = gets_within shards number es in
    let fits : (replayed shards number empty_state es).calls.gets < 2 ^ 60 = omega (arith, size, most, below) in
    subst (λ (s : State). s.calls.gets < 2 ^ 60) (sym sound.contents_are) fits

pub few_sets : (number shards last : ℕ) (contents : State) (es : List Entry) → IsSound number shards last contents es → last_stamp 0 es < 2 ^ 60 → contents.calls.sets < 2 ^ 60
few_sets number shards last contents es sound below =
    let size = StampsRise-length 0 es sound.history_is.stamps in
    let most = sets_within shards number es in
    let fits : (replayed shards number empty_state es).calls.sets < 2 ^ 60 = omega (arith, size, most, below) in
    subst (λ (s : State). s.calls.sets < 2 ^ 60) (sym sound.contents_are) fits
