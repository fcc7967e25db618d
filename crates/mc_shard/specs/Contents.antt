-- The contents of a shard, and how they and its history belong together. No public clause cites
-- this module.
use Rattle.std.specs.Prelude.{◌≡◌, ℕ, ◌<◌, ◌≤◌, ◌+◌, List, Option, None, Some, refl}
use Rattle.std.specs.Coded.{Coded, code_by, coded×, coded_ℕ, coded_list}
use Rattle.std.specs.declared.cmp.Ordering.{Ordering}
use Rattle.std.specs.Ordering.{nat_cmp, ordering_then}
use Rattle.std.specs.Cmp.{IsTotalOrder, then_total, on_total, nat_cmp_total}
use Rattle.std.specs.Cmp.Lexicographic.{slice_cmp, nat_list_cmp_total}
use Rattle.std.specs.FinMap.{from_entries, code, insert, remove, empty, len}
use Rattle.std.specs.Map.{lookup}
use Rattle.std.specs.BTreeMap.{is_at}
use Rattle.mc_calls.specs.declared.item.Item.{Item}
use Rattle.mc_calls.specs.declared.entry.Entry.{Entry}
use Rattle.mc_calls.specs.Key.{hash_of}
use Rattle.mc_calls.specs.Counted.{CallCounts}
use Rattle.mc_calls.specs.Shard.{Items, State, empty_state}
use Rattle.mc_stats.specs.declared.counts.Counts.{Counts}
use Rattle.mc_calls.specs.History.{IsHistory, replayed}
use Rattle.mc_calls.specs.Order.{last_stamp}

-- the order of keys in the map: by their hashes, and keys with the same hash as in a dictionary
abbrev pub hashed_cmp : List ℕ → List ℕ → Ordering
hashed_cmp a b = ordering_then (nat_cmp (hash_of a) (hash_of b)) (slice_cmp nat_cmp a b)

pub hashed_total : IsTotalOrder hashed_cmp
hashed_total = then_total (on_total hash_of nat_cmp_total) nat_list_cmp_total

-- the item that the entries have at a key
abbrev pub item_in : List (List ℕ × Item) → List ℕ → Option Item
item_in entries key = lookup (is_at (hashed_cmp key)) entries

-- the items made from the entries
abbrev pub items_in : List (List ℕ × Item) → Items
items_in entries = from_entries entries

-- a shard after this item was put at the key of a call, and counted; a call without a key puts none
abbrev pub with_item : State → Option (List ℕ) → Item → State
with_item state None item = state
with_item state (Some key) item = record state { items = insert state.items key item; count = state.count + 1 }

-- a shard after the item of a call's key was removed; a call without a key removes none
abbrev pub without_item : State → Option (List ℕ) → State
without_item state None = state
without_item state (Some key) = record state { items = remove state.items key }

-- a shard after all items were removed
abbrev pub without_items : State → State
without_items state = record state { items = empty }

-- the counts of calls among the counts of a shard
abbrev pub call_counts_in : Counts → CallCounts
call_counts_in counts = record { gets = counts.gets; sets = counts.sets; hits = counts.hits; misses = counts.misses }

-- the counts are those of a shard that has these items and ever stored `count` items
pub record AreCounts (counts : Counts) (count : ℕ) (items : Items) : Type 0 where
  pub items_are : counts.items ≡ len items
  pub few_items : counts.items ≤ count
  pub few_hits : counts.hits ≤ counts.gets
  pub few_misses : counts.misses ≤ counts.gets

-- what every shard keeps: its items and its counter are those that its history leaves, and the last
-- stamp is the history's
pub record IsSound (number shards last : ℕ) (contents : State) (history : List Entry) : Type 0 where
  pub within : number < shards
  pub few : shards ≤ 256
  pub history_is : IsHistory shards number history
  pub contents_are : contents ≡ replayed shards number empty_state history
  pub last_is : last ≡ last_stamp 0 history

-- ---- codes, by which these may be values of a type

-- an item is stored as its fields
abbrev item_code : Coded Item
item_code =
    code_by (ℕ × (List ℕ × ℕ)) (coded× coded_ℕ (coded× (coded_list coded_ℕ) coded_ℕ))
    (λ i. (i.flags, (i.value, i.unique)))
    (λ p. record { flags = p.0; value = p.1.0; unique = p.1.1 })
    (λ _. refl)

-- and items as keys with their items
abbrev pub items_code : Coded Items
items_code = code (coded_list coded_ℕ) item_code
