-- What a record of a journal has, field by field: docs/FORMATS.md, "Journal".
use Rattle.std.specs.Prelude.{◌≡◌, ℕ, ◌<◌, if◌then◌else◌, [], ⊤}
use Rattle.mc_calls.specs.declared.call_kind.CallKind.TheVariants.{Flush}
use Rattle.mc_calls.specs.declared.call_kind.CallFields.{CallFields}
use Rattle.mc_calls.specs.declared.call_reply.CallReply.{CallReply}
use Rattle.mc_calls.specs.declared.entry.Entry.{Entry}
use Rattle.mc_calls.specs.declared.tallied.Tallied.{Tallied}
use Rattle.mc_calls.specs.declared.hold.Hold.{Hold}
use Rattle.mc_calls.specs.Code.{call_of}
use Rattle.zy_journal_reader.specs.declared.draft.Draft.{Draft}
use Rattle.zy_journal_reader.specs.declared.due.Due.{Due}
use Rattle.zy_journal_reader.specs.declared.due.Due.TheVariants.{Byte, Number, Long}
use Rattle.zy_journal_reader.specs.declared.due.ByteField.TheVariants.{Magic, Tag, KeyLength, ReplyCode}
use Rattle.zy_journal_reader.specs.declared.due.NumberField.TheVariants.{Flags, ValueLength}
use Rattle.zy_journal_reader.specs.declared.due.LongField.TheVariants.{CallNumber}

-- ---- calls

-- the value of a call, or its reply if it has no value
abbrev pub at_value : CallFields → Due
at_value fields = if fields.value then Number ValueLength else Byte ReplyCode

-- what comes at the place of its number
abbrev pub at_number : CallFields → Due
at_number fields = if fields.number then Long CallNumber else at_value fields

-- what comes at the place of its flags
abbrev pub at_flags : CallFields → Due
at_flags fields = if fields.flags then Number Flags else at_number fields

-- what comes after its code
abbrev pub after_call_code : CallFields → Due
after_call_code fields = if fields.key then Byte KeyLength else at_flags fields

-- ---- records

-- no number of a tally was read
abbrev pub nothing_counted : Tallied
nothing_counted = record { gets = 0; sets = 0; hits = 0; misses = 0; items = 0 }

-- a record of which nothing was read
abbrev pub fresh : Draft
fresh = record {
  stamp = 0;
  shard = 0;
  conn = 0;
  index = 0;
  part = 0;
  kind = Flush;
  key = [];
  flags = 0;
  number = 0;
  value = [];
  found_flags = 0;
  found_unique = 0;
  counts = nothing_counted;
  core = 0;
  size = 0;
}

-- the entry that was read, with this reply
abbrev pub entry_read : Draft → CallReply → Entry
entry_read d reply = record {
  tag = record { conn = d.conn; index = d.index; part = d.part };
  shard = d.shard;
  call = call_of d.kind d.key d.flags d.number d.value;
  reply = reply;
  stamp = d.stamp;
}

-- the hold that was read, with this count
abbrev pub hold_of : Draft → ℕ → Hold
hold_of d count = record { core = d.core; conn = d.conn; count = count }

-- ---- for the reader only

-- where a byte of the magic is expected, its place is within it; there, and where a record may begin, nothing of a
-- record was read
abbrev pub IsInBounds : Due → ℕ → Draft → Type 0
IsInBounds (Byte Magic) at d = (at < 8) × (d ≡ fresh)
IsInBounds (Byte Tag) at d = d ≡ fresh
IsInBounds due at d = ⊤

-- this may be expected at any place, whatever was read
abbrev pub IsOpenAnywhere : Due → Type 0
IsOpenAnywhere due = (at : ℕ) (d : Draft) → IsInBounds due at d
