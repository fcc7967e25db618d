-- The fields of a journal, and what a whole one does, by what is expected: the tables of docs/FORMATS.md, "Journal".
use Rattle.std.specs.Prelude.{ℕ, ◌-◌, ◌^◌, ◌==◌, ◌&&◌, ◌||◌, nat_lt, nat_le, if◌then◌else◌, Bool, true, false}
use Rattle.std.specs.Prelude.{List, [], ◌∷◌, ◌++◌, length, get_or, ⊤}
use Rattle.std.specs.List.{slice_index}
use Rattle.std.specs.Int.{from_be_bytes, w32, w64}
use Rattle.zy_base.specs.declared.file_fault.FileFault.{FileFault}
use Rattle.zy_base.specs.declared.file_fault.FileFault.TheVariants.{Form, Truncated, TooLong}
use Rattle.mc_calls.specs.declared.call_reply.CallReply.{CallReply}
use Rattle.mc_calls.specs.declared.call_reply.CallReply.TheVariants as Replies
use Rattle.mc_calls.specs.declared.entry.Entry.{Entry}
use Rattle.mc_calls.specs.declared.hold.Hold.{Hold}
use Rattle.mc_calls.specs.Code.{kind_of, fields_of, last_call_code, last_reply_code, hit_code, number_code, tally_code}
use Rattle.mc_calls.specs.Code.{tally, plain_reply}
use Rattle.zy_base.specs.Limits.{key_limit, value_limit, connection_limit, shard_limit, core_limit, hold_limit}
use Rattle.zy_base.specs.Limits.{command_limit, stamp_limit}
use Rattle.zy_read.specs.Fields.{Judged, Fields, Place}
use Rattle.zy_read.specs.Fields.Judged.{Then, Gives, Wrong}
use Rattle.zy_read.specs.FieldReading.{width_of}
use Rattle.zy_read.specs.declared.shape.Shape.{Shape}
use Rattle.zy_read.specs.declared.shape.Shape.TheVariants as Shapes
use Rattle.zy_journal.specs.Journal.{magic}
use Rattle.zy_journal_reader.specs.declared.draft.Draft.{Draft}
use Rattle.zy_journal_reader.specs.declared.past.Past.{Past}
use Rattle.zy_journal_reader.specs.declared.due.Due.{Due}
use Rattle.zy_journal_reader.specs.declared.due.Due.TheVariants.{Byte, Number, Long, Bytes, Nothing}
use Rattle.zy_journal_reader.specs.declared.due.ByteField.{ByteField}
use Rattle.zy_journal_reader.specs.declared.due.ByteField.TheVariants.{Magic, Tag, CallCode, KeyLength, ReplyCode}
use Rattle.zy_journal_reader.specs.declared.due.NumberField.{NumberField}
use Rattle.zy_journal_reader.specs.declared.due.NumberField.TheVariants.{Shard, Connection, Part, Flags, ValueLength}
use Rattle.zy_journal_reader.specs.declared.due.NumberField.TheVariants.{FoundFlags, FoundLength, HoldConnection}
use Rattle.zy_journal_reader.specs.declared.due.NumberField.TheVariants.{HoldCore, HoldCount}
use Rattle.zy_journal_reader.specs.declared.due.LongField.{LongField}
use Rattle.zy_journal_reader.specs.declared.due.LongField.TheVariants.{Stamp, Index, CallNumber, FoundUnique}
use Rattle.zy_journal_reader.specs.declared.due.LongField.TheVariants.{ReplyNumber, Gets, Sets, Hits, Misses, Items}
use Rattle.zy_journal_reader.specs.declared.due.BytesField.{BytesField}
use Rattle.zy_journal_reader.specs.declared.due.BytesField.TheVariants.{Key, Value, FoundValue}
use Rattle.zy_journal_reader.specs.Fields.{after_call_code, at_flags, at_number, at_value, fresh, entry_read, hold_of}

-- ---- how far a text was read

-- what was read of a text up to some field
pub record ReadState : Type 0 where
  -- what is expected there
  pub due : Due
  -- what was read of the record
  pub draft : Draft
  -- the entries and the holds that were read
  pub entries : List Entry
  pub holds : List Hold
  -- what the next ones must not come before
  pub past : Past

-- where a text was read up to some byte
abbrev pub JournalProgress : Type 0
JournalProgress = Place ReadState FileFault

-- before the first field
abbrev pub journal_start : ReadState
journal_start = record {
  due = Byte Magic;
  draft = fresh;
  entries = [];
  holds = [];
  past = record { stamp = 0; shard = 0; conn = 0 };
}

-- what a whole field does: where it leads, and whether it ends the journal
abbrev pub Done : Type 0
Done = Judged ReadState ⊤ FileFault

-- the most bytes of a journal
abbrev pub journal_limit : ℕ
journal_limit = 2 ^ 63 - 1

-- ---- what a field may do

-- this is expected after the field
abbrev pub goes_to : ReadState → Due → Done
goes_to s due = Then (record s { due = due })

-- the same, with more read of the record
abbrev pub knows : ReadState → Draft → Due → Done
knows s draft due = goes_to (record s { draft = draft }) due

-- the field is a length, and `size` bytes are expected after it
abbrev pub begins_bytes : ReadState → BytesField → ℕ → Done
begins_bytes s field size = goes_to (record s { draft = record s.draft { size = size } }) (Bytes field)

-- the state after an entry, which has this reply
abbrev pub after_entry : ReadState → CallReply → ReadState
after_entry s reply = record s {
  due = Byte Tag;
  draft = fresh;
  entries = s.entries ++ entry_read s.draft reply ∷ [];
  past = record s.past { stamp = s.draft.stamp; shard = s.draft.shard };
}

-- the field ends an entry, which has this reply
abbrev pub ends_entry : ReadState → CallReply → Done
ends_entry s reply = Then (after_entry s reply)

-- the field ends an entry, whose get found this value
abbrev pub ends_hit : ReadState → List ℕ → Done
ends_hit s value = ends_entry s (Replies.Hit s.draft.found_flags s.draft.found_unique value)

-- the state after a hold, which has this count
abbrev pub after_hold : ReadState → ℕ → ReadState
after_hold s count = record s {
  due = Byte Tag;
  draft = fresh;
  holds = s.holds ++ hold_of s.draft count ∷ [];
  past = record s.past { conn = s.draft.conn };
}

-- the field ends a hold, which has this count
abbrev pub ends_hold : ReadState → ℕ → Done
ends_hold s count = Then (after_hold s count)

-- the field ends the journal
abbrev pub ends_journal : ReadState → Done
ends_journal s = Gives (record s { due = Nothing }) tt

-- ---- fields of one byte

-- which bytes are valid; no entry comes after a hold
abbrev pub lawful_byte : ByteField → ReadState → ℕ → ℕ → Bool
lawful_byte Magic s at byte = byte == slice_index magic at
lawful_byte Tag s at byte = byte == 69 || byte == 72 || (byte == 74 && length s.holds == 0)
lawful_byte CallCode s at byte = nat_le 1 byte && nat_le byte last_call_code
lawful_byte KeyLength s at byte = nat_le 1 byte && nat_le byte key_limit
lawful_byte ReplyCode s at byte = nat_le 1 byte && nat_le byte last_reply_code

-- what a valid one does
abbrev pub after_byte : ByteField → ReadState → ℕ → ℕ → Done
after_byte Magic s at byte = if at == 7 then goes_to s (Byte Tag) else goes_to s (Byte Magic)
after_byte Tag s at byte =
    if byte == 69 then ends_journal s else if byte == 72 then goes_to s (Number HoldConnection)
    else goes_to s (Long Stamp)
after_byte CallCode s at byte =
    knows s (record s.draft { kind = kind_of byte }) (after_call_code (fields_of (kind_of byte)))
after_byte KeyLength s at byte = begins_bytes s Key byte
after_byte ReplyCode s at byte =
    if byte == hit_code then goes_to s (Number FoundFlags) else if byte == number_code then goes_to s (Long ReplyNumber)
    else if byte == tally_code then goes_to s (Long Gets) else ends_entry s (plain_reply byte)

-- ---- numbers of four bytes

-- which numbers are valid; if the stamp is that of the entry before, the shard is above that one's
abbrev pub lawful_number : NumberField → ReadState → ℕ → Bool
lawful_number Shard s n = nat_lt n shard_limit && (nat_lt s.past.stamp s.draft.stamp || nat_lt s.past.shard n)
lawful_number Connection s n = nat_lt n connection_limit
lawful_number ValueLength s n = nat_le n value_limit
lawful_number FoundLength s n = nat_le n value_limit
lawful_number HoldConnection s n = nat_le s.past.conn n && nat_lt n connection_limit
lawful_number HoldCore s n = nat_lt n core_limit
lawful_number HoldCount s n = nat_le 1 n && nat_le n hold_limit
lawful_number Part s n = true
lawful_number Flags s n = true
lawful_number FoundFlags s n = true

-- what a valid one does
abbrev pub after_four : NumberField → ReadState → ℕ → Done
after_four Shard s n = knows s (record s.draft { shard = n }) (Number Connection)
after_four Connection s n = knows s (record s.draft { conn = n }) (Long Index)
after_four Part s n = knows s (record s.draft { part = n }) (Byte CallCode)
after_four Flags s n = knows s (record s.draft { flags = n }) (at_number (fields_of s.draft.kind))
after_four ValueLength s n =
    if n == 0 then knows s (record s.draft { value = [] }) (Byte ReplyCode) else begins_bytes s Value n
after_four FoundFlags s n = knows s (record s.draft { found_flags = n }) (Long FoundUnique)
after_four FoundLength s n =
    if n == 0 then ends_hit s [] else begins_bytes s FoundValue n
after_four HoldConnection s n = knows s (record s.draft { conn = n }) (Number HoldCore)
after_four HoldCore s n = knows s (record s.draft { core = n }) (Number HoldCount)
after_four HoldCount s n = ends_hold s n

-- ---- numbers of eight bytes

-- which numbers are valid; a stamp is not below that of the entry before
abbrev pub lawful_long : LongField → ReadState → ℕ → Bool
lawful_long Stamp s n = nat_le 1 n && nat_lt n stamp_limit && nat_le s.past.stamp n
lawful_long Index s n = nat_lt n command_limit
lawful_long CallNumber s n = true
lawful_long FoundUnique s n = true
lawful_long ReplyNumber s n = true
lawful_long Gets s n = true
lawful_long Sets s n = true
lawful_long Hits s n = true
lawful_long Misses s n = true
lawful_long Items s n = true

-- what a valid one does
abbrev pub after_eight : LongField → ReadState → ℕ → Done
after_eight Stamp s n = knows s (record s.draft { stamp = n }) (Number Shard)
after_eight Index s n = knows s (record s.draft { index = n }) (Number Part)
after_eight CallNumber s n = knows s (record s.draft { number = n }) (at_value (fields_of s.draft.kind))
after_eight FoundUnique s n = knows s (record s.draft { found_unique = n }) (Number FoundLength)
after_eight ReplyNumber s n = ends_entry s (Replies.Number n)
after_eight Gets s n = knows s (record s.draft { counts = record s.draft.counts { gets = n } }) (Long Sets)
after_eight Sets s n = knows s (record s.draft { counts = record s.draft.counts { sets = n } }) (Long Hits)
after_eight Hits s n = knows s (record s.draft { counts = record s.draft.counts { hits = n } }) (Long Misses)
after_eight Misses s n = knows s (record s.draft { counts = record s.draft.counts { misses = n } }) (Long Items)
after_eight Items s n = ends_entry s (tally (record s.draft.counts { items = n }))

-- ---- keys and values

-- what a whole key or value does
abbrev pub after_bytes : BytesField → ReadState → List ℕ → Done
after_bytes Key s bytes = knows s (record s.draft { key = bytes; size = 0 }) (at_flags (fields_of s.draft.kind))
after_bytes Value s bytes = knows s (record s.draft { value = bytes; size = 0 }) (Byte ReplyCode)
after_bytes FoundValue s bytes = ends_hit s bytes

-- ---- a whole field, by what is expected

-- a field of one byte
abbrev pub one : ByteField → ReadState → ℕ → ℕ → Done
one field s at byte = if lawful_byte field s at byte then after_byte field s at byte else Wrong (Form at)

-- a number of four bytes
abbrev pub number_byte : NumberField → ReadState → ℕ → ℕ → Done
number_byte field s at n = if lawful_number field s n then after_four field s n else Wrong (Form at)

-- a number of eight bytes
abbrev pub long_byte : LongField → ReadState → ℕ → ℕ → Done
long_byte field s at n = if lawful_long field s n then after_eight field s n else Wrong (Form at)

-- a whole field, if this is expected
abbrev pub journal_judged : Due → ReadState → ℕ → List ℕ → Done
journal_judged (Byte field) s at bytes = one field s at (get_or bytes 0 0)
journal_judged (Number field) s at bytes = number_byte field s at (from_be_bytes w32 bytes)
journal_judged (Long field) s at bytes = long_byte field s at (from_be_bytes w64 bytes)
journal_judged (Bytes field) s at bytes = after_bytes field s bytes
journal_judged Nothing s at bytes = Wrong (Form at)

-- ---- the fields

-- the shape of the field that is expected, if a key or a value has `size` bytes
abbrev pub journal_shape : Due → ℕ → Shape
journal_shape (Number field) size = Shapes.Four
journal_shape (Long field) size = Shapes.Eight
journal_shape (Bytes field) size = Shapes.Run (size - 1)
journal_shape due size = Shapes.Byte

-- the end was read
abbrev pub is_last : Due → Bool
is_last Nothing = true
is_last due = false

-- the fields of a journal
abbrev pub journal_fields : Fields ReadState ⊤ FileFault
journal_fields = record {
  start = journal_start;
  width = λ s. width_of (journal_shape s.due s.draft.size);
  judge = λ s at field. journal_judged s.due s at field;
  is_end = λ s. is_last s.due;
  limit = journal_limit;
  too_long = TooLong;
  truncated = Truncated;
}
