-- What each call answers and does on one shard of the store: memcached's protocol.txt, "Storage commands",
-- "Retrieval command", "Deletion", "Increment/Decrement" and "General-purpose statistics". Uniques, the limit of a
-- value and the form of counted values are this project's (docs/PROFILE.md).
use Rattle.std.specs.Prelude.{ℕ, ◌+◌, ◌-◌, ◌*◌, ◌%◌, ◌^◌, ◌==◌, nat_lt, if◌then◌else◌, List, ◌++◌, length, decimal}
use Rattle.std.specs.Prelude.{Option, None, Some, Bool, true, false, ◌||◌}
use Rattle.std.specs.Ordering.{nat_cmp}
use Rattle.std.specs.Cmp.Lexicographic.{slice_cmp}
use Rattle.std.specs.FinMap.{FinMap, empty, get, insert, remove, len}
use Rattle.mc_calls.specs.declared.item.Item.{Item}
use Rattle.mc_calls.specs.declared.call.Call.{Call}
use Rattle.mc_calls.specs.declared.call_reply.CallReply.{CallReply}
use Rattle.mc_calls.specs.declared.tallied.Tallied.{Tallied}
use Rattle.mc_calls.specs.declared.call_reply.CallReply.TheVariants.{Miss, Hit, Stored, NotStored, Exists, NotFound}
use Rattle.mc_calls.specs.declared.call_reply.CallReply.TheVariants.{Deleted, Number, NotNumber, TooLarge, Flushed}
use Rattle.mc_calls.specs.declared.call_reply.CallReply.TheVariants.{Tally}
use Rattle.mc_calls.specs.Table.{CallParts, parts_of, key_part, flags_part, number_part, value_part, Act, says, shows}
use Rattle.mc_calls.specs.Table.{puts, appends, prepends, exchanges, counts_up, counts_down, takes, clears, tallies}
use Rattle.mc_calls.specs.Table.{Acts, always, by_item}
use Rattle.mc_calls.specs.Call.{key_of}
use Rattle.mc_calls.specs.Code.{tally, call_row, reply_code}
use Rattle.mc_calls.specs.Counted.{CallCounts, no_calls, calls_with}
use Rattle.zy_base.specs.Number.{number_of}
pub use Rattle.zy_base.specs.Limits.{value_limit}

-- ---- values

-- the items of a shard, by the bytes of their keys
abbrev pub Items : Type 0
Items = FinMap (slice_cmp nat_cmp) Item

-- a shard: its items, how many items it ever stored, and how many calls of each kind it answered
pub record State : Type 0 where
  pub items : Items
  pub count : ℕ
  pub calls : CallCounts

-- a shard on which no call was made
abbrev pub empty_state : State
empty_state = record { items = empty; count = 0; calls = no_calls }

-- what a shard counts: its calls, and the keys of its items
abbrev pub tallied : State → Tallied
tallied state = record {
  gets = state.calls.gets;
  sets = state.calls.sets;
  hits = state.calls.hits;
  misses = state.calls.misses;
  items = len state.items;
}

-- the unique of the item that shard `number` of `shards` stores with this count
abbrev pub unique_of : ℕ → ℕ → ℕ → ℕ
unique_of shards number count = shards * count + number

-- ---- what a call comes to

-- what a call does to the items of its shard
pub data Effect : Type 0 where
  -- nothing
  keeps : Effect
  -- the key gets an item with these flags and this value, and a unique of its own
  stores : List ℕ → ℕ → List ℕ → Effect
  -- the key's item is removed
  removes : List ℕ → Effect
  -- all items are removed
  empties : Effect

-- what a call answers, and what it does
pub record Outcome : Type 0 where
  pub reply : CallReply
  pub effect : Effect

-- an answer, and nothing changes
abbrev pub answers : CallReply → Outcome
answers reply = record { reply = reply; effect = keeps }

-- the item is stored
abbrev pub stored : List ℕ → ℕ → List ℕ → Outcome
stored key flags value = record { reply = Stored; effect = stores key flags value }

-- the joined value is stored with the flags of the item, unless it is too large
abbrev pub joined : List ℕ → Item → List ℕ → Outcome
joined key item value = if nat_lt value_limit (length value) then answers TooLarge else stored key item.flags value

-- the number is stored as digits without padding, with the flags of the item
abbrev pub renumbered : List ℕ → Item → ℕ → Outcome
renumbered key item number = record { reply = Number number; effect = stores key item.flags (decimal number) }

-- a value that is a number is counted up, modulo 2^64
abbrev pub counted_up : List ℕ → Item → ℕ → Option ℕ → Outcome
counted_up key item amount None = answers NotNumber
counted_up key item amount (Some number) = renumbered key item ((number + amount) % 2 ^ 64)

-- a value that is a number is counted down, and not below 0
abbrev pub counted_down : List ℕ → Item → ℕ → Option ℕ → Outcome
counted_down key item amount None = answers NotNumber
counted_down key item amount (Some number) = renumbered key item (number - amount)

-- an item is exchanged if it has the unique that the caller saw
abbrev pub exchanged : List ℕ → Item → ℕ → ℕ → List ℕ → Outcome
exchanged key item flags unique value = if item.unique == unique then stored key flags value else answers Exists

-- what an act answers and does for a call with these parts, on a shard with these counts, if its key has no item or
-- has this one
abbrev pub done : Tallied → CallParts → Act → Option Item → Outcome
done counts call (says reply) found = answers reply
done counts call shows None = answers Miss
done counts call shows (Some item) = answers (Hit item.flags item.unique item.value)
done counts call puts found = stored (key_part call) (flags_part call) (value_part call)
done counts call appends None = answers NotStored
done counts call appends (Some item) = joined (key_part call) item (item.value ++ (value_part call))
done counts call prepends None = answers NotStored
done counts call prepends (Some item) = joined (key_part call) item ((value_part call) ++ item.value)
done counts call exchanges None = answers NotFound
done counts call exchanges (Some item) =
    exchanged (key_part call) item (flags_part call) (number_part call) (value_part call)
done counts call counts_up None = answers NotFound
done counts call counts_up (Some item) = counted_up (key_part call) item (number_part call) (number_of item.value)
done counts call counts_down None = answers NotFound
done counts call counts_down (Some item) = counted_down (key_part call) item (number_part call) (number_of item.value)
done counts call takes None = answers NotFound
done counts call takes (Some item) = record { reply = Deleted; effect = removes (key_part call) }
done counts call clears found = record { reply = Flushed; effect = empties }
done counts call tallies found = answers (tally counts)

-- an act may answer this if the key has no item
abbrev pub says_without : Act → CallReply → Bool
says_without (says own) reply = reply_code own == reply_code reply
says_without shows Miss = true
says_without puts Stored = true
says_without appends NotStored = true
says_without prepends NotStored = true
says_without exchanges NotFound = true
says_without counts_up NotFound = true
says_without counts_down NotFound = true
says_without takes NotFound = true
says_without clears Flushed = true
says_without tallies (Tally gets sets hits misses items) = true
says_without act reply = false

-- an act may answer this if the key has an item
abbrev pub says_with : Act → CallReply → Bool
says_with (says own) reply = reply_code own == reply_code reply
says_with shows (Hit flags unique value) = true
says_with puts Stored = true
says_with appends Stored = true
says_with appends TooLarge = true
says_with prepends Stored = true
says_with prepends TooLarge = true
says_with exchanges Stored = true
says_with exchanges Exists = true
says_with counts_up (Number number) = true
says_with counts_up NotNumber = true
says_with counts_down (Number number) = true
says_with counts_down NotNumber = true
says_with takes Deleted = true
says_with clears Flushed = true
says_with tallies (Tally gets sets hits misses items) = true
says_with act reply = false

-- what these acts answer and do, in their case
abbrev pub done_of : Tallied → CallParts → Acts → Option Item → Outcome
done_of counts call (always act) found = done counts call act found
done_of counts call (by_item without with) None = done counts call without None
done_of counts call (by_item without with) (Some item) = done counts call with (Some item)

-- a call of these acts may get this reply
abbrev pub may_say : Acts → CallReply → Bool
may_say (always act) reply = says_without act reply || says_with act reply
may_say (by_item without with) reply = says_without without reply || says_with with reply

-- what each call answers and does on a shard with these counts, if its key has no item or has this
-- one
abbrev pub outcome_of : Tallied → Call → Option Item → Outcome
outcome_of counts call found = done_of counts (parts_of call) (call_row call).acts found

-- ---- the step

-- the item of a call's key
abbrev pub item_at : Items → Option (List ℕ) → Option Item
item_at items None = None
item_at items (Some key) = get items key

-- what a call answers, and what it does, on this shard
abbrev pub outcome_on : State → Call → Outcome
outcome_on state call = outcome_of (tallied state) call (item_at state.items (key_of call))

-- the shard after an effect; only a stored item raises the counter
abbrev pub state_with : ℕ → ℕ → State → Effect → State
state_with shards number state keeps = state
state_with shards number state (stores key flags value) =
    let item : Item = record { flags = flags; value = value; unique = unique_of shards number (state.count + 1) } in
    record state { items = insert state.items key item; count = state.count + 1 }
state_with shards number state (removes key) = record state { items = remove state.items key }
state_with shards number state empties = record state { items = empty }

-- the shard with these counts of calls
abbrev pub with_calls : State → CallCounts → State
with_calls state calls = record state { calls = calls }

-- what the shard answers to a call
abbrev pub reply_to : State → Call → CallReply
reply_to state call = (outcome_on state call).reply

-- shard `number` of `shards` after a call
abbrev pub state_after : ℕ → ℕ → State → Call → State
state_after shards number state call =
    with_calls (state_with shards number state (outcome_on state call).effect)
    (calls_with state.calls call (reply_to state call))
