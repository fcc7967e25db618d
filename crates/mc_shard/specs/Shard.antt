-- The view of a shard: its number, the number of shards, and the history of its calls.
use Rattle.std.specs.Prelude.{◌≡◌, ℕ, List, [], ◌∷◌, ◌++◌}
use Rattle.mc_calls.specs.declared.call.Call.{Call}
use Rattle.mc_calls.specs.declared.call.Call.TheVariants.{Tally}
use Rattle.mc_calls.specs.declared.call_reply.CallReply.{CallReply}
use Rattle.mc_calls.specs.declared.entry.Entry.{Entry}
use Rattle.mc_calls.specs.declared.entry.Tag.{Tag}
use Rattle.mc_calls.specs.Code.{tally}
use Rattle.mc_calls.specs.Counted.{counted}
use Rattle.mc_calls.specs.Shard.{State, empty_state, reply_to, state_after}
use Rattle.mc_calls.specs.History.{replayed}
use Rattle.mc_calls.specs.Order.{last_stamp}

-- a shard as its callers see it
pub record Kept : Type 0 where
  pub number : ℕ
  -- how many shards there are
  pub shards : ℕ
  -- its calls with its replies, the oldest first
  pub history : List Entry

-- shard `number` of `shards`, with this history
abbrev pub kept : ℕ → ℕ → List Entry → Kept
kept number shards history = record { number = number; shards = shards; history = history }

-- its items and its counter: those that its history leaves of an empty shard
abbrev pub state_of : Kept → State
state_of shard = replayed shard.shards shard.number empty_state shard.history

-- the stamp of its last entry, 0 without entries
abbrev pub last_of : Kept → ℕ
last_of shard = last_stamp 0 shard.history

-- the entry of a call with this tag, on the shard with this number, by its reply and its stamp
abbrev pub entry_of : Tag → ℕ → Call → CallReply → ℕ → Entry
entry_of tag number call reply stamp =
    record { tag = tag; shard = number; call = call; reply = reply; stamp = stamp }

-- the shard with one more entry in its history
abbrev pub with_entry : Kept → Entry → Kept
with_entry shard entry = kept shard.number shard.shards (shard.history ++ entry ∷ [])

-- the reply of the shard to a call
abbrev pub reply_of : Kept → Call → CallReply
reply_of shard call = reply_to (state_of shard) call

-- its items and its counter after a call
abbrev pub state_past : Kept → Call → State
state_past shard call = state_after shard.shards shard.number (state_of shard) call

-- a tally answers what is counted of the entries before it
abbrev pub TallyCounts : Call → CallReply → List Entry → Type 0
TallyCounts call reply history = call ≡ Tally → reply ≡ tally (counted history)
