-- The items of all shards, gathered into one list. No public clause cites this module.
use Rattle.std.specs.Prelude.{◌≡◌, ℕ, ◌<◌, ◌≤◌, List, ◌++◌, length, map, Option, None, Some}
use Rattle.std.specs.BTreeMap.{BTreeMap, get, keys}
use Rattle.std.specs.Cmp.Lexicographic.{slice_cmp}
use Rattle.std.specs.List.{slice_get}
use Rattle.std.specs.Ordering.{nat_cmp}
use Rattle.mc_calls.specs.declared.item.Item.{Item}
use Rattle.mc_calls.specs.Key.{shard_of}
use Rattle.zy_items.specs.declared.standing.KeptItem.{KeptItem}
use Rattle.zy_verdict.specs.Between.{item_in}
use Rattle.zy_confirm.specs.Store.{item_on_shard}

-- the item of a key in a map
abbrev pub item_of : BTreeMap (List ℕ) Item → List ℕ → Option Item
item_of items key = get (slice_cmp nat_cmp) items key

-- the first one of two items, if there is one
abbrev pub either_of : Option Item → Option Item → Option Item
either_of None other = other
either_of (Some item) other = Some item

-- items of a shard's keys went from one map to another, which has the items of other keys that it had
pub record MovesOwn (shard shards : ℕ) (from to left all : BTreeMap (List ℕ) Item) : Type 0 where
  pub own : (key : List ℕ) → shard_of key shards ≡ shard
      → either_of (item_of left key) (item_of all key) ≡ either_of (item_of from key) (item_of to key)
  pub others : (key : List ℕ) → (shard_of key shards ≡ shard → ⊥) → item_of all key ≡ item_of to key

-- a map has the items of the keys of the shards below this one
pub record GathersTo (shards : List (BTreeMap (List ℕ) Item)) (shard : ℕ) (all : BTreeMap (List ℕ) Item)
    : Type 0 where
  pub here : (key : List ℕ) → shard_of key (length shards) < shard
      → item_of all key ≡ item_on_shard (slice_get shards (shard_of key (length shards))) key
  pub none : (key : List ℕ) → shard ≤ shard_of key (length shards) → item_of all key ≡ None

-- items went from a map to a list
abbrev pub TakesInOrder : List KeptItem → BTreeMap (List ℕ) Item → List KeptItem → BTreeMap (List ℕ) Item → Type 0
TakesInOrder items all more left =
    (key : List ℕ)
    → either_of (item_in more key) (item_of left key) ≡ either_of (item_in items key) (item_of all key)

-- the keys of these items
abbrev pub keys_in : List KeptItem → List (List ℕ)
keys_in items = map (λ (kept : KeptItem). kept.key) items

-- items went from the beginning of a map to the end of a list
abbrev pub KeepsKeys : List KeptItem → BTreeMap (List ℕ) Item → List KeptItem → BTreeMap (List ℕ) Item → Type 0
KeepsKeys items all more left = keys_in more ++ keys left ≡ keys_in items ++ keys all
