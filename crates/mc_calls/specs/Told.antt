-- Items, replies and entries without uniques, shards and stamps.
use Rattle.std.specs.Prelude.{◌≡◌, ◌&&◌, ℕ, Bool, true, false, List, map, if◌then◌else◌, Option, None, Some, ⊤}
use Rattle.std.specs.Ordering.{nat_cmp, eq_by_cmp}
use Rattle.std.specs.Cmp.Lexicographic.{slice_cmp}
use Rattle.std.specs.FinMap.{get}
use Rattle.mc_calls.specs.declared.item.Item.{Item}
use Rattle.mc_calls.specs.declared.call.Call.{Call}
use Rattle.mc_calls.specs.declared.call_reply.CallReply.{CallReply}
use Rattle.mc_calls.specs.declared.call_reply.CallReply.TheVariants.{Hit}
use Rattle.mc_calls.specs.declared.entry.Entry.{Entry}
use Rattle.mc_calls.specs.Table.{Act, Acts, exchanges, clears, tallies, always, by_item}
use Rattle.mc_calls.specs.Code.{call_row}
use Rattle.mc_calls.specs.Kind.{IsTrue}
use Rattle.mc_calls.specs.Shard.{State, Effect, keeps, stores, removes, empties}

-- ---- values

-- a reply without its unique
abbrev pub told : CallReply → CallReply
told (Hit flags unique value) = Hit flags 0 value
told reply = reply

-- an entry without its shard, its unique and its stamp
abbrev pub told_of : Entry → Entry
told_of e = record { tag = e.tag; shard = 0; call = e.call; reply = told e.reply; stamp = 0 }

-- entries without shards, uniques and stamps
abbrev pub all_told : List Entry → List Entry
all_told es = map told_of es

-- what is found at a key, without its unique
abbrev pub seen : Option Item → Option Item
seen None = None
seen (Some item) = Some (record { flags = item.flags; value = item.value; unique = 0 })

-- what a shard has at a key, without its unique
abbrev pub seen_at : List ℕ → State → Option Item
seen_at key state = seen (get state.items key)

-- ---- calls and effects

-- the act depends only on the key's item, and changes nothing at other keys
abbrev pub is_steady_act : Act → Bool
is_steady_act exchanges = false
is_steady_act clears = false
is_steady_act tallies = false
is_steady_act act = true

-- this holds of these acts, in both cases
abbrev pub are_steady : Acts → Bool
are_steady (always act) = is_steady_act act
are_steady (by_item without with) = is_steady_act without && is_steady_act with

-- the reply to the call depends only on its key's item without its unique, except for the unique that it
-- shows, and its effect is at one key
abbrev pub IsSteady : Call → Type 0
IsSteady call = IsTrue (are_steady (call_row call).acts)

-- the item at a key after an effect, without its unique, from that before it
abbrev pub seen_after : Effect → List ℕ → Option Item → Option Item
seen_after keeps key found = found
seen_after (stores at flags value) key found =
    if eq_by_cmp (slice_cmp nat_cmp) key at then Some (record { flags = flags; value = value; unique = 0 }) else found
seen_after (removes at) key found = if eq_by_cmp (slice_cmp nat_cmp) key at then None else found
seen_after empties key found = None

-- an effect is at this key only
abbrev pub IsAtOnly : List ℕ → Effect → Type 0
IsAtOnly key keeps = ⊤
IsAtOnly key (stores at flags value) = at ≡ key
IsAtOnly key (removes at) = at ≡ key
IsAtOnly key empties = ⊥
