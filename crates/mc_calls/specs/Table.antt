-- The table of calls: what each kind of call is in a journal, what it does on its shard, and what it is counted as
-- (docs/FORMATS.md, "Journal"; docs/PROFILE.md). Each kind of call has one row here.
use Rattle.std.specs.Prelude.{ℕ, ◌==◌, if◌then◌else◌, Bool, true, false, List, [], Option, None, Some, unwrap_or}
use Rattle.mc_calls.specs.declared.call.Call.{Call}
use Rattle.mc_calls.specs.declared.call.Call.TheVariants as Calls
use Rattle.mc_calls.specs.declared.call_kind.CallKind.{CallKind}
use Rattle.mc_calls.specs.declared.call_kind.CallKind.TheVariants.{Get, Set, Add, Replace, Append, Prepend, Cas, Incr}
use Rattle.mc_calls.specs.declared.call_kind.CallKind.TheVariants.{Decr, Delete, Flush, Tally}
use Rattle.mc_calls.specs.declared.call_kind.CallFields.{CallFields}
use Rattle.mc_calls.specs.declared.call_kind.CountedAs.{CountedAs}
use Rattle.mc_calls.specs.declared.call_kind.CountedAs.TheVariants.{AsGet, AsSet, Uncounted}
use Rattle.mc_calls.specs.declared.call_reply.CallReply.{CallReply}
use Rattle.mc_calls.specs.declared.call_reply.CallReply.TheVariants.{NotStored}

-- ---- what a call does

-- what a call does on its shard, by its own fields and the item of its key
pub data Act : Type 0 where
  -- answers this, and changes nothing
  says : CallReply → Act
  -- answers the item
  shows : Act
  -- stores the value with the flags
  puts : Act
  -- stores the item's value followed by the call's
  appends : Act
  -- stores the call's value followed by the item's
  prepends : Act
  -- stores the value with the flags, if the item has this unique
  exchanges : Act
  -- counts the item's value up
  counts_up : Act
  -- counts the item's value down
  counts_down : Act
  -- removes the item
  takes : Act
  -- removes all items
  clears : Act
  -- answers what the shard counts
  tallies : Act

-- what a call does if its key has no item, and if it has one
pub data Acts : Type 0 where
  -- the same act in both cases
  always : Act → Acts
  -- the first if there is none, the second if there is one
  by_item : Act → Act → Acts

-- ---- the table

-- which of a key, flags, a number and a value a kind has
abbrev pub having : Bool → Bool → Bool → Bool → CallFields
having key flags number value = record { key = key; flags = flags; number = number; value = value }

-- the code of a kind, its fields, what it is counted as, and what it does
pub record CallRow : Type 0 where
  pub code : ℕ
  pub fields : CallFields
  pub counted : CountedAs
  pub acts : Acts

-- the row with these parts
abbrev pub call_row : ℕ → CallFields → CountedAs → Acts → CallRow
call_row code fields counted acts = record { code = code; fields = fields; counted = counted; acts = acts }

-- the row of each kind
abbrev pub row_of : CallKind → CallRow
row_of Get = call_row 1 (having true false false false) AsGet (always shows)
row_of Set = call_row 2 (having true true false true) AsSet (always puts)
row_of Add = call_row 3 (having true true false true) AsSet (by_item puts (says NotStored))
row_of Replace = call_row 4 (having true true false true) AsSet (by_item (says NotStored) puts)
row_of Append = call_row 5 (having true false false true) AsSet (always appends)
row_of Prepend = call_row 6 (having true false false true) AsSet (always prepends)
row_of Cas = call_row 7 (having true true true true) AsSet (always exchanges)
row_of Incr = call_row 8 (having true false true false) Uncounted (always counts_up)
row_of Decr = call_row 9 (having true false true false) Uncounted (always counts_down)
row_of Delete = call_row 10 (having true false false false) Uncounted (always takes)
row_of Flush = call_row 11 (having false false false false) Uncounted (always clears)
row_of Tally = call_row 12 (having false false false false) Uncounted (always tallies)

-- the greatest code of a call
abbrev pub last_call_code : ℕ
last_call_code = 12

-- the kind that has a code, 1 to 12
abbrev pub kind_of : ℕ → CallKind
kind_of code =
    if code == 1 then Get else if code == 2 then Set else if code == 3 then Add else if code == 4 then Replace
    else if code == 5 then Append else if code == 6 then Prepend else if code == 7 then Cas else if code == 8 then Incr
    else if code == 9 then Decr else if code == 10 then Delete else if code == 11 then Flush else Tally

-- ---- calls and their fields

-- a call's kind, and the key, the flags, the number and the value that it has
pub record CallParts : Type 0 where
  pub kind : CallKind
  pub key : Option (List ℕ)
  pub flags : Option ℕ
  pub number : Option ℕ
  pub value : Option (List ℕ)

-- the parts of a call, of which it may lack some
abbrev pub parts : CallKind → Option (List ℕ) → Option ℕ → Option ℕ → Option (List ℕ) → CallParts
parts kind key flags number value = record { kind = kind; key = key; flags = flags; number = number; value = value }

-- the parts of each call
abbrev pub parts_of : Call → CallParts
parts_of (Calls.Get key) = parts Get (Some key) None None None
parts_of (Calls.Set key flags value) = parts Set (Some key) (Some flags) None (Some value)
parts_of (Calls.Add key flags value) = parts Add (Some key) (Some flags) None (Some value)
parts_of (Calls.Replace key flags value) = parts Replace (Some key) (Some flags) None (Some value)
parts_of (Calls.Append key value) = parts Append (Some key) None None (Some value)
parts_of (Calls.Prepend key value) = parts Prepend (Some key) None None (Some value)
parts_of (Calls.Cas flags key unique value) = parts Cas (Some key) (Some flags) (Some unique) (Some value)
parts_of (Calls.Incr key amount) = parts Incr (Some key) None (Some amount) None
parts_of (Calls.Decr key amount) = parts Decr (Some key) None (Some amount) None
parts_of (Calls.Delete key) = parts Delete (Some key) None None None
parts_of Calls.Flush = parts Flush None None None None
parts_of Calls.Tally = parts Tally None None None None

-- the key, or the empty one if there is none
abbrev pub key_part : CallParts → List ℕ
key_part call = unwrap_or call.key []

-- the flags, or 0 if there are none
abbrev pub flags_part : CallParts → ℕ
flags_part call = unwrap_or call.flags 0

-- the number, or 0 if there is none
abbrev pub number_part : CallParts → ℕ
number_part call = unwrap_or call.number 0

-- the value, or the empty one if there is none
abbrev pub value_part : CallParts → List ℕ
value_part call = unwrap_or call.value []

-- the call of a kind, with its fields
abbrev pub call_of : CallKind → List ℕ → ℕ → ℕ → List ℕ → Call
call_of Get key flags number value = Calls.Get key
call_of Set key flags number value = Calls.Set key flags value
call_of Add key flags number value = Calls.Add key flags value
call_of Replace key flags number value = Calls.Replace key flags value
call_of Append key flags number value = Calls.Append key value
call_of Prepend key flags number value = Calls.Prepend key value
call_of Cas key flags number value = Calls.Cas flags key number value
call_of Incr key flags number value = Calls.Incr key number
call_of Decr key flags number value = Calls.Decr key number
call_of Delete key flags number value = Calls.Delete key
call_of Flush key flags number value = Calls.Flush
call_of Tally key flags number value = Calls.Tally
