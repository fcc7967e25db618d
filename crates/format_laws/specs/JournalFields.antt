-- The fields of a journal that can be wrong, docs/FORMATS.md, "Journal": what comes before each in its entry or hold,
-- and which numbers are valid there.
use Rattle.std.specs.Prelude.{ℕ, ◌^◌, ◌<◌, ◌≤◌, List, [], ◌∷◌, ◌++◌, Option, None, Some, IsSome, ⊤}
use Rattle.std.specs.Int.{to_be_bytes, w32, w64}
use Rattle.mc_calls.specs.declared.entry.Entry.{Entry}
use Rattle.mc_calls.specs.declared.hold.Hold.{Hold}
use Rattle.mc_calls.specs.Call.{key_of}
use Rattle.mc_calls.specs.Code.{call_code, call_flags, call_number, call_value, last_call_code, reply_code}
use Rattle.mc_calls.specs.Code.{reply_flags, reply_number, reply_value, last_reply_code}
use Rattle.mc_calls.specs.Bounds.{FitsEntry}
use Rattle.zy_base.specs.Limits.{key_limit, value_limit, connection_limit, shard_limit, core_limit, hold_limit}
use Rattle.zy_base.specs.Limits.{command_limit, stamp_limit}
use Rattle.mc_calls.specs.Order.{IsBehind}
use Rattle.zy_journal.specs.Journal.{key_text, field_text, fields_text, call_text, entry_head, IsEntry}

-- ---- fields

-- a byte, or a number of four or of eight bytes
pub data Shape : Type 0 where
  One : Shape
  Four : Shape
  Eight : Shape

-- the bytes of a field
abbrev pub number_text : Shape → ℕ → List ℕ
number_text One n = n ∷ []
number_text Four n = to_be_bytes w32 n
number_text Eight n = to_be_bytes w64 n

-- the numbers that a field can have are below this
abbrev pub range : Shape → ℕ
range One = 256
range Four = 2 ^ 32
range Eight = 2 ^ 64

-- ---- the fields of an entry that can be wrong

-- a field of an entry
pub data EntryField : Type 0 where
  Stamp : EntryField
  Shard : EntryField
  Connection : EntryField
  Command : EntryField
  CallCode : EntryField
  KeyLength : EntryField
  ValueLength : EntryField
  ReplyCode : EntryField
  FoundLength : EntryField

-- how each is encoded
abbrev pub shape_of : EntryField → Shape
shape_of Stamp = Eight
shape_of Shard = Four
shape_of Connection = Four
shape_of Command = Eight
shape_of CallCode = One
shape_of KeyLength = One
shape_of ValueLength = Four
shape_of ReplyCode = One
shape_of FoundLength = Four

-- the bytes of an entry before each
abbrev pub before : EntryField → Entry → List ℕ
before Stamp e = 74 ∷ []
before Shard e = 74 ∷ to_be_bytes w64 e.stamp
before Connection e = 74 ∷ (to_be_bytes w64 e.stamp ++ to_be_bytes w32 e.shard)
before Command e = 74 ∷ (to_be_bytes w64 e.stamp ++ (to_be_bytes w32 e.shard ++ to_be_bytes w32 e.tag.conn))
before CallCode e = entry_head e
before KeyLength e = entry_head e ++ call_code e.call ∷ []
before ValueLength e =
    entry_head e
    ++ call_code e.call
    ∷ (field_text key_text (key_of e.call) ++ fields_text (call_flags e.call) (call_number e.call) None)
before ReplyCode e = entry_head e ++ call_text e.call
before FoundLength e =
    entry_head e
    ++ (call_text e.call ++ reply_code e.reply ∷ fields_text (reply_flags e.reply) (reply_number e.reply) None)

-- which entries have it
abbrev pub HasField : EntryField → Entry → Type 0
HasField KeyLength e = IsSome (key_of e.call)
HasField ValueLength e = IsSome (call_value e.call)
HasField FoundLength e = IsSome (reply_value e.reply)
HasField field e = ⊤

-- a stamp is not below that of the entry before, if there is one
abbrev pub IsNotBelow : Option Entry → ℕ → Type 0
IsNotBelow None stamp = ⊤
IsNotBelow (Some last) stamp = last.stamp ≤ stamp

-- which numbers are valid there, after the last entry before this one
abbrev pub IsLawfulNumber : EntryField → Option Entry → Entry → ℕ → Type 0
IsLawfulNumber Stamp last e n = (0 < n) × (n < stamp_limit) × IsNotBelow last n
IsLawfulNumber Shard last e n = (n < shard_limit) × IsBehind last (record e { shard = n })
IsLawfulNumber Connection last e n = n < connection_limit
IsLawfulNumber Command last e n = n < command_limit
IsLawfulNumber CallCode last e n = (1 ≤ n) × (n ≤ last_call_code)
IsLawfulNumber KeyLength last e n = (1 ≤ n) × (n ≤ key_limit)
IsLawfulNumber ValueLength last e n = n ≤ value_limit
IsLawfulNumber ReplyCode last e n = (1 ≤ n) × (n ≤ last_reply_code)
IsLawfulNumber FoundLength last e n = n ≤ value_limit

-- the entry is one that may come after the last one
pub record IsNextEntry (last : Option Entry) (e : Entry) : Type 0 where
  pub valid : IsEntry e
  pub fits : FitsEntry e
  pub comes : IsBehind last e

-- what an entry has before a field is valid: nothing, its stamp, or the first fields of an entry
-- that may come next
abbrev pub IsLawfulUpTo : EntryField → Option Entry → Entry → Type 0
IsLawfulUpTo Stamp last e = ⊤
IsLawfulUpTo Shard last e = IsLawfulNumber Stamp last e e.stamp
IsLawfulUpTo field last e = IsNextEntry last e × HasField field e

-- ---- the fields of a hold, which are numbers of four bytes

-- a field of a hold
pub data HoldField : Type 0 where
  OfConnection : HoldField
  OfCore : HoldField
  OfCount : HoldField

-- the bytes of a hold before each
abbrev pub before_in_hold : HoldField → Hold → List ℕ
before_in_hold OfConnection h = 72 ∷ []
before_in_hold OfCore h = 72 ∷ to_be_bytes w32 h.conn
before_in_hold OfCount h = 72 ∷ (to_be_bytes w32 h.conn ++ to_be_bytes w32 h.core)

-- a connection is not below that of the hold before, if there is one
abbrev pub IsNotFalling : Option Hold → ℕ → Type 0
IsNotFalling None conn = ⊤
IsNotFalling (Some last) conn = last.conn ≤ conn

-- which numbers are valid there, after the last hold before this one
abbrev pub IsLawfulInHold : HoldField → Option Hold → ℕ → Type 0
IsLawfulInHold OfConnection last n = (n < connection_limit) × IsNotFalling last n
IsLawfulInHold OfCore last n = n < core_limit
IsLawfulInHold OfCount last n = (1 ≤ n) × (n ≤ hold_limit)

-- what a hold has before a field is valid
abbrev pub IsHoldUpTo : HoldField → Option Hold → Hold → Type 0
IsHoldUpTo OfConnection last h = ⊤
IsHoldUpTo OfCore last h = IsLawfulInHold OfConnection last h.conn
IsHoldUpTo OfCount last h = IsLawfulInHold OfConnection last h.conn × IsLawfulInHold OfCore last h.core
