-- Example calls, one at a time: the item of their key, and what they come to.
use Rattle.std.specs.Prelude.{ℕ, List, Option, Some}
use Rattle.mc_calls.specs.declared.item.Item.{Item}
use Rattle.mc_calls.specs.declared.call_reply.CallReply.{CallReply}
use Rattle.mc_calls.specs.declared.tallied.Tallied.{Tallied}
use Rattle.mc_calls.specs.Shard.{Effect, Outcome}

-- a shard on which nothing was counted
abbrev pub none : Tallied
none = record { gets = 0; sets = 0; hits = 0; misses = 0; items = 0 }

-- an item with this value, the flags 7 and the CAS value 19
abbrev pub item_of : List ℕ → Option Item
item_of value = Some (record { flags = 7; value = value; unique = 19 })

-- the reply to a call, and its effect
abbrev pub outcome : CallReply → Effect → Outcome
outcome reply effect = record { reply = reply; effect = effect }
