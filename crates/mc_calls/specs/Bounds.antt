-- Which keys, values, calls, replies and items are within their bounds (docs/PROFILE.md).
use Rattle.std.specs.Prelude.{ℕ, ◌^◌, ◌<◌, ◌≤◌, List, length, Option, None, Some, IfSome, ⊤}
use Rattle.std.specs.FinMap.{get}
use Rattle.mc_calls.specs.declared.item.Item.{Item}
use Rattle.mc_calls.specs.declared.call.Call.{Call}
use Rattle.mc_calls.specs.declared.call_reply.CallReply.{CallReply}
use Rattle.mc_calls.specs.declared.call_reply.CallReply.TheVariants.{Hit}
use Rattle.mc_calls.specs.declared.entry.Entry.{Entry}
use Rattle.mc_calls.specs.declared.tallied.Tallied.{Tallied}
use Rattle.mc_calls.specs.Call.{key_of}
use Rattle.mc_calls.specs.Code.{call_flags, call_number, call_value, reply_flags, reply_number, reply_counts}
use Rattle.zy_base.specs.Limits.{key_limit, value_limit}
use Rattle.mc_calls.specs.Shard.{State, Effect, keeps, stores, removes, empties}

-- ---- calls and replies

-- a key has 1 to 250 bytes
abbrev pub IsKey : List ℕ → Type 0
IsKey key = (0 < length key) × (length key ≤ key_limit)

-- a value has at most 1,048,576 bytes
abbrev pub IsValue : List ℕ → Type 0
IsValue value = length value ≤ value_limit

-- a key and a value, if they are there, are within their bounds
abbrev pub ArePartsWithin : Option (List ℕ) → Option (List ℕ) → Type 0
ArePartsWithin None None = ⊤
ArePartsWithin None (Some value) = IsValue value
ArePartsWithin (Some key) None = IsKey key
ArePartsWithin (Some key) (Some value) = IsKey key × IsValue value

-- the key and the value of a call are within their bounds
abbrev pub IsCall : Call → Type 0
IsCall call = ArePartsWithin (key_of call) (call_value call)

-- the value of a reply is within its bound
abbrev pub IsReply : CallReply → Type 0
IsReply (Hit flags unique value) = IsValue value
IsReply reply = ⊤

-- the call of an entry is within its bounds, and belongs to one of `commands` commands
abbrev pub IsCallWithin : ℕ → Entry → Type 0
IsCallWithin commands e = IsCall e.call × (e.tag.index < commands)

-- ---- numbers, which fit the bytes that a journal has for them

-- flags have four bytes, and a number has eight
abbrev pub FitFields : Option ℕ → Option ℕ → Type 0
FitFields flags number = IfSome flags (λ n. n < 2 ^ 32) × IfSome number (λ n. n < 2 ^ 64)

-- the flags of a call have four bytes, and its unique or its amount has eight
abbrev pub FitsCall : Call → Type 0
FitsCall call = FitFields (call_flags call) (call_number call)

-- the numbers of a tally have eight bytes each
abbrev pub FitCounts : Tallied → Type 0
FitCounts counts =
    (counts.gets < 2 ^ 64) × (counts.sets < 2 ^ 64) × (counts.hits < 2 ^ 64) × (counts.misses < 2 ^ 64)
    × (counts.items < 2 ^ 64)

-- the flags of a reply have four bytes, its unique or its number has eight, and so has each number
-- of a tally
abbrev pub FitsReply : CallReply → Type 0
FitsReply reply = FitFields (reply_flags reply) (reply_number reply) × IfSome (reply_counts reply) FitCounts

-- an entry's numbers without a bound of their own fit their bytes
pub record FitsEntry (e : Entry) : Type 0 where
  pub part : e.tag.part < 2 ^ 32
  pub call : FitsCall e.call
  pub reply : FitsReply e.reply

-- ---- what a shard has

-- the value of an item, if one is found, is within its bound
abbrev pub IsFound : Option Item → Type 0
IsFound None = ⊤
IsFound (Some item) = IsValue item.value

-- the values of all items of a shard are within their bound
abbrev pub AreItems : State → Type 0
AreItems state = (key : List ℕ) → IsFound (get state.items key)

-- the value that is stored is within its bound
abbrev pub IsEffect : Effect → Type 0
IsEffect keeps = ⊤
IsEffect (stores key flags value) = IsValue value
IsEffect (removes key) = ⊤
IsEffect empties = ⊤
