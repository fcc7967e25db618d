-- How compact entries and the lists of what calls stored spell entries. No public clause cites this module.
use Rattle.std.specs.Prelude.{ℕ, ◌<◌, List, [], length, map}
use Rattle.std.specs.List.{AllByRecursion}
use Rattle.std.proofs.Math.ListN.{get_or}
use Rattle.mc_calls.specs.declared.call.Call.{Call}
use Rattle.mc_calls.specs.declared.call.Call.TheVariants as Calls
use Rattle.mc_calls.specs.declared.call_reply.CallReply.{CallReply}
use Rattle.mc_calls.specs.declared.call_reply.CallReply.TheVariants as Replies
use Rattle.mc_calls.specs.declared.entry.Entry.{Entry}
use Rattle.mc_calls.specs.declared.entry.Tag.{Tag}
use Rattle.mc_history.specs.declared.stored_item.StoredItem.{StoredItem}
use Rattle.mc_history.specs.declared.exchange.Exchange.{Exchange}
use Rattle.mc_history.specs.declared.compact_entry.CompactEntry.{CompactEntry}
use Rattle.mc_history.specs.declared.compact_entry.Form.{Form}
use Rattle.mc_history.specs.declared.compact_entry.Form.TheVariants as Forms
use Rattle.mc_history.specs.declared.entry_ref.ExchangeRef.{ExchangeRef}
use Rattle.mc_history.specs.declared.entry_ref.ExchangeRef.TheVariants as Refs
use Rattle.mc_history.specs.Recorded.{Recorded, recorded, entry_of, item_at}

-- the items that were stored, the keys of misses, and the other calls with their replies
pub record Lists : Type 0 where
  pub stored : List StoredItem
  pub missed : List (List ℕ)
  pub others : List Exchange

-- these lists
abbrev pub lists : List StoredItem → List (List ℕ) → List Exchange → Lists
lists stored missed others = record { stored = stored; missed = missed; others = others }

-- a call with its reply
abbrev pub exchange : Call → CallReply → Exchange
exchange call reply = record { call = call; reply = reply }

-- the `set` that stored an item
abbrev pub set_of : StoredItem → Exchange
set_of b = exchange (Calls.Set b.key b.item.flags b.item.value) Replies.Stored

-- the `get` that found an item
abbrev pub hit_of : StoredItem → Exchange
hit_of b = exchange (Calls.Get b.key) (Replies.Hit b.item.flags b.item.unique b.item.value)

-- the `get` that found none
abbrev pub miss_of : List ℕ → Exchange
miss_of key = exchange (Calls.Get key) Replies.Miss

-- the call and the reply that a form and a place spell
abbrev pub exchange_at : Lists → Form → ℕ → Exchange
exchange_at ls Forms.Set place = set_of (item_at ls.stored place)
exchange_at ls Forms.Hit place = hit_of (item_at ls.stored place)
exchange_at ls Forms.Miss place = miss_of (get_or ls.missed place [])
exchange_at ls Forms.Other place = get_or ls.others place (exchange Calls.Flush Replies.Flushed)

-- an entry of a call and its reply
abbrev pub entry_with : Tag → ℕ → ℕ → Exchange → Entry
entry_with tag shard stamp t = entry_of tag shard t.call t.reply stamp

-- the entry that a compact entry spells
abbrev pub spelled_at : ℕ → Lists → CompactEntry → Entry
spelled_at shard ls entry = entry_with entry.tag shard entry.stamp (exchange_at ls entry.form entry.place)

-- the history that compact entries spell
abbrev pub view_of : ℕ → Lists → List CompactEntry → Recorded
view_of shard ls compact = recorded shard (map (spelled_at shard ls) compact) ls.stored

-- a place is below the end of its list
abbrev pub IsPlace : Lists → Form → ℕ → Type 0
IsPlace ls Forms.Set place = place < length ls.stored
IsPlace ls Forms.Hit place = place < length ls.stored
IsPlace ls Forms.Miss place = place < length ls.missed
IsPlace ls Forms.Other place = place < length ls.others

-- the place of a compact entry is there
abbrev pub IsSpelled : Lists → CompactEntry → Type 0
IsSpelled ls entry = IsPlace ls entry.form entry.place

-- the places of these compact entries are there
abbrev pub AreSpelled : Lists → List CompactEntry → Type 0
AreSpelled ls compact = AllByRecursion (IsSpelled ls) compact

-- the call and the reply that lent parts spell
abbrev pub exchange_by : ExchangeRef → Exchange
exchange_by (Refs.Set b) = set_of b.now
exchange_by (Refs.Hit b) = hit_of b.now
exchange_by (Refs.Miss key) = miss_of key.now
exchange_by (Refs.Other call reply) = exchange call.now reply.now

-- the entry of lent parts
abbrev pub entry_by : Tag → ℕ → ℕ → ExchangeRef → Entry
entry_by tag shard stamp by = entry_with tag shard stamp (exchange_by by)
