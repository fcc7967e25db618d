-- A history as its callers see it: the entries, and the items that were stored, by their places.
use Rattle.std.specs.Prelude.{ℕ, List, [], ◌∷◌, ◌++◌, Option, None, Some}
use Rattle.std.proofs.Math.ListN.{get_or}
use Rattle.mc_calls.specs.declared.call.Call.{Call}
use Rattle.mc_calls.specs.declared.call.Call.TheVariants.{Get, Set}
use Rattle.mc_calls.specs.declared.call_reply.CallReply.{CallReply}
use Rattle.mc_calls.specs.declared.call_reply.CallReply.TheVariants.{Hit, Miss, Stored}
use Rattle.mc_calls.specs.declared.entry.Entry.{Entry}
use Rattle.mc_calls.specs.declared.entry.Tag.{Tag}
use Rattle.mc_calls.specs.declared.item.Item.{Item}
use Rattle.mc_history.specs.declared.stored_item.StoredItem.{StoredItem}
use Rattle.mc_history.specs.declared.exchange.Exchange.{Exchange}

-- a history of a shard
pub record Recorded : Type 0 where
  pub shard : ℕ
  -- the calls with their replies, the oldest first
  pub entries : List Entry
  -- the items that were ever stored, with their keys
  pub stored : List StoredItem

-- the history with these parts
abbrev pub recorded : ℕ → List Entry → List StoredItem → Recorded
recorded shard entries stored = record { shard = shard; entries = entries; stored = stored }

-- a key with an item
abbrev pub keyed : List ℕ → Item → StoredItem
keyed key item = record { key = key; item = item }

-- an entry
abbrev pub entry_of : Tag → ℕ → Call → CallReply → ℕ → Entry
entry_of tag number call reply stamp =
    record { tag = tag; shard = number; call = call; reply = reply; stamp = stamp }

-- no item
abbrev pub nothing : StoredItem
nothing = keyed [] (record { flags = 0; value = []; unique = 0 })

-- what is at a place
abbrev pub item_at : List StoredItem → ℕ → StoredItem
item_at stored place = get_or stored place nothing

-- the history with one more entry
abbrev pub with_entry : Recorded → Tag → ℕ → Call → CallReply → Recorded
with_entry old tag stamp call reply =
    recorded old.shard (old.entries ++ entry_of tag old.shard call reply stamp ∷ []) old.stored

-- with the entry of a set, which stored this item
abbrev pub with_set : Recorded → Tag → ℕ → List ℕ → Item → Recorded
with_set old tag stamp key item =
    recorded old.shard (old.entries ++ entry_of tag old.shard (Set key item.flags item.value) Stored stamp ∷ [])
    (old.stored ++ keyed key item ∷ [])

-- with the entry of a get that found what is at this place
abbrev pub with_hit : Recorded → Tag → ℕ → ℕ → Recorded
with_hit old tag stamp place =
    let b : StoredItem = item_at old.stored place in
    with_entry old tag stamp (Get b.key) (Hit b.item.flags b.item.unique b.item.value)

-- with the entry of a get that found nothing
abbrev pub with_miss : Recorded → Tag → ℕ → List ℕ → Recorded
with_miss old tag stamp key = with_entry old tag stamp (Get key) Miss

-- with what a call stored, if it stored something
abbrev pub kept_too : List StoredItem → Option StoredItem → List StoredItem
kept_too items None = items
kept_too items (Some stored) = items ++ stored ∷ []

-- with the entry of any other call
abbrev pub with_other : Recorded → Tag → ℕ → Exchange → Option StoredItem → Recorded
with_other old tag stamp exchange stored =
    recorded old.shard (old.entries ++ entry_of tag old.shard exchange.call exchange.reply stamp ∷ []) (kept_too old.stored stored)
