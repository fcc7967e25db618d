-- Where the items of a shard are among those that were ever stored. No public clause cites this module.
use Rattle.std.specs.Prelude.{◌≡◌, ℕ, List, [], ◌++◌, ◌∷◌, map, Option, None, Some, IfSome}
use Rattle.mc_calls.specs.declared.item.Item.{Item}
use Rattle.mc_calls.specs.declared.call_reply.CallReply.{CallReply}
use Rattle.mc_calls.specs.declared.call_reply.CallReply.TheVariants.{Hit, Miss}
use Rattle.mc_calls.specs.declared.entry.Tag.{Tag}
use Rattle.mc_calls.specs.declared.tallied.Tallied.{Tallied}
use Rattle.mc_calls.specs.Shard.{Items, State}
use Rattle.mc_stats.specs.declared.counts.Counts.{Counts}
use Rattle.mc_stats.specs.Counts.{no_counts, with_get, with_set}
use Rattle.mc_history.specs.declared.stored_item.StoredItem.{StoredItem}
use Rattle.mc_history.specs.declared.exchange.Exchange.{Exchange}
use Rattle.mc_history.specs.Recorded.{Recorded, item_at, entry_of}
use Rattle.mc_shard.specs.Contents.{IsSound, AreCounts, items_in, call_counts_in}
use Rattle.mc_shard.specs.Places.{Keyed, place_in, all_keys, no_places, AreLines, IsFor}
use Rattle.mc_shard.specs.declared.contents.Contents.{Contents}
use Rattle.mc_shard.specs.declared.contents.Noted.{Noted}
use Rattle.mc_shard.specs.declared.contents.Noted.TheVariants as Noting

-- ---- items by their places

-- a key with the item at its place
abbrev pub pair_at : List StoredItem → List ℕ × ℕ → List ℕ × Item
pair_at stored entry = (entry.0, (item_at stored entry.1).item)

-- the keys with the items at their places
abbrev pub seen : List StoredItem → Keyed → List (List ℕ × Item)
seen stored places = map (pair_at stored) places

-- the items at the places of their keys
abbrev pub items_at : List StoredItem → Keyed → Items
items_at stored places = items_in (seen stored places)

-- the place of each key is that of something that was stored at this key
abbrev pub ArePlaces : List StoredItem → Keyed → Type 0
ArePlaces stored places = (key : List ℕ) → IfSome (place_in places key) (IsFor stored key)

-- the item at a place, if there is one
abbrev pub found_at : List StoredItem → Option ℕ → Option Item
found_at stored None = None
found_at stored (Some place) = Some (item_at stored place).item

-- the place of the item of a call's key, if the call has a key
abbrev pub place_at : Keyed → Option (List ℕ) → Option ℕ
place_at places None = None
place_at places (Some key) = place_in places key

-- the reply to a get that found this
abbrev pub reply_at : List StoredItem → Option ℕ → CallReply
reply_at stored None = Miss
reply_at stored (Some place) =
    Hit (item_at stored place).item.flags (item_at stored place).item.unique (item_at stored place).item.value

-- ---- the contents of a shard

-- without an item, and with nothing counted
abbrev pub no_contents : Contents
no_contents = record { places = no_places; count = 0; counts = no_counts }

-- the items, their counter and the counts of calls
abbrev pub contents_in : List StoredItem → Contents → State
contents_in stored contents =
    let items : Items = items_at stored (all_keys stored contents.places) in
    record { items = items; count = contents.count; calls = call_counts_in contents.counts }

-- what a tally answers by these counts
abbrev pub tallied_by : Counts → Tallied
tallied_by counts = record {
  gets = counts.gets;
  sets = counts.sets;
  hits = counts.hits;
  misses = counts.misses;
  items = counts.items;
}

-- the counts after such a call
abbrev pub noted_by : Noted → Counts → Counts
noted_by (Noting.Get hit) counts = with_get hit counts
noted_by Noting.Set counts = with_set counts
noted_by Noting.Other counts = counts

-- the contents have the places of what was stored, and the counts of these items
pub record IsIndex (stored : List StoredItem) (contents : Contents) : Type 0 where
  pub lines : AreLines stored contents.places.lines
  pub places : ArePlaces stored (all_keys stored contents.places)
  pub counts_are : AreCounts contents.counts contents.count (items_at stored (all_keys stored contents.places))

-- a ledger has one entry more, that of a call with this reply
pub record HasEntry (old : Recorded) (tag : Tag) (stamp : ℕ) (exchange : Exchange) (new : Recorded) : Type 0 where
  pub shard : new.shard ≡ old.shard
  pub entries : new.entries ≡ old.entries ++ entry_of tag old.shard exchange.call exchange.reply stamp ∷ []

-- what every shard keeps: its contents have the places of the items in its ledger, and are what the ledger's
-- entries leave
pub record IsIndexed (number shards last : ℕ) (contents : Contents) (ledger : Recorded) : Type 0 where
  pub here : ledger.shard ≡ number
  pub index : IsIndex ledger.stored contents
  pub sound : IsSound number shards last (contents_in ledger.stored contents) ledger.entries
