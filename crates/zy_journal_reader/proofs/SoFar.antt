-- What was read of a journal text so far, and what is known of it.
use Rattle.std.proofs.Common.{◌≡◌, ◌⊎◌, ℕ, ◌<◌, ◌≤◌, ◌^◌, true, List, [], ◌∷◌, ◌++◌, length, take}
use Rattle.std.specs.Prelude.{Option, None, Some, flat_map, ⊤}
use Rattle.std.specs.List.{AllByRecursion}
use Rattle.std.specs.Int.{to_be_bytes, w32, w64}
use Rattle.mc_calls.specs.declared.entry.Entry.{Entry}
use Rattle.mc_calls.specs.declared.hold.Hold.{Hold}
use Rattle.mc_calls.specs.Order.{IsOrdered}
use Rattle.mc_calls.specs.Shard.{value_limit}
use Rattle.mc_calls.specs.Code.{code_of, hit_code, number_code, tally_code}
use Rattle.mc_calls.specs.Bounds.{IsCall, FitsCall, FitsEntry}
use Rattle.zy_journal.specs.Journal.{magic, call_text, entry_text, hold_text, IsEntry, IsHold, AreByConnection}
use Rattle.zy_journal_reader.specs.declared.draft.Draft.{Draft}
use Rattle.zy_journal_reader.specs.declared.past.Past.{Past}
use Rattle.zy_journal_reader.specs.declared.due.Due.{Due}
use Rattle.zy_journal_reader.specs.declared.due.Due.TheVariants.{Byte, Number, Long, Bytes, Nothing}
use Rattle.zy_journal_reader.specs.declared.due.ByteField.TheVariants.{Magic, CallCode, KeyLength, ReplyCode}
use Rattle.zy_journal_reader.specs.declared.due.NumberField.TheVariants.{Shard, Connection, Part, Flags, ValueLength, FoundFlags, FoundLength, HoldConnection, HoldCore, HoldCount}
use Rattle.zy_journal_reader.specs.declared.due.LongField.TheVariants.{Stamp, Index, CallNumber, FoundUnique, ReplyNumber, Gets, Sets, Hits, Misses, Items}
use Rattle.zy_journal_reader.specs.declared.due.BytesField.TheVariants.{Key, Value, FoundValue}
use Rattle.zy_journal_reader.specs.Steps.{ReadState, Done}
use Rattle.zy_read.proofs.RunLemmas.{After}
use Rattle.zy_journal_reader.specs.Last.{last_one}
use Rattle.zy_journal_reader.proofs.CallLemmas.{fields_in, call_in, to_flags, to_number, to_value, KeyKnown, FlagsKnown, NumberKnown}

-- the bytes before the record that is read
abbrev pub front : List Entry → List Hold → List ℕ
front es hs = magic ++ (flat_map entry_text es ++ flat_map hold_text hs)

-- the bytes of a record up to its call
abbrev pub head : Draft → List ℕ
head d = 74 ∷ (to_be_bytes w64 d.stamp ++ (to_be_bytes w32 d.shard ++ (to_be_bytes w32 d.conn ++ (to_be_bytes w64 d.index ++ to_be_bytes w32 d.part))))

-- the bytes of the record before what is expected
abbrev pub before : Due → Draft → List ℕ
before (Byte CallCode) d = head d
before (Byte KeyLength) d = head d ++ code_of d.kind ∷ []
before (Byte ReplyCode) d = head d ++ call_text (call_in d)
before (Number Shard) d = 74 ∷ to_be_bytes w64 d.stamp
before (Number Connection) d = 74 ∷ (to_be_bytes w64 d.stamp ++ to_be_bytes w32 d.shard)
before (Number Part) d = 74 ∷ (to_be_bytes w64 d.stamp ++ (to_be_bytes w32 d.shard ++ (to_be_bytes w32 d.conn ++ to_be_bytes w64 d.index)))
before (Number Flags) d = head d ++ to_flags d
before (Number ValueLength) d = head d ++ to_value d
before (Number FoundFlags) d = head d ++ (call_text (call_in d) ++ hit_code ∷ [])
before (Number FoundLength) d = head d ++ (call_text (call_in d) ++ hit_code ∷ (to_be_bytes w32 d.found_flags ++ to_be_bytes w64 d.found_unique))
before (Number HoldConnection) d = 72 ∷ []
before (Number HoldCore) d = 72 ∷ to_be_bytes w32 d.conn
before (Number HoldCount) d = 72 ∷ (to_be_bytes w32 d.conn ++ to_be_bytes w32 d.core)
before (Long Stamp) d = 74 ∷ []
before (Long Index) d = 74 ∷ (to_be_bytes w64 d.stamp ++ (to_be_bytes w32 d.shard ++ to_be_bytes w32 d.conn))
before (Long CallNumber) d = head d ++ to_number d
before (Long FoundUnique) d = head d ++ (call_text (call_in d) ++ hit_code ∷ to_be_bytes w32 d.found_flags)
before (Long ReplyNumber) d = head d ++ (call_text (call_in d) ++ number_code ∷ [])
before (Long Gets) d = head d ++ (call_text (call_in d) ++ tally_code ∷ [])
before (Long Sets) d = head d ++ (call_text (call_in d) ++ tally_code ∷ to_be_bytes w64 d.counts.gets)
before (Long Hits) d = head d ++ (call_text (call_in d) ++ tally_code ∷ (to_be_bytes w64 d.counts.gets ++ to_be_bytes w64 d.counts.sets))
before (Long Misses) d = head d ++ (call_text (call_in d) ++ tally_code ∷ (to_be_bytes w64 d.counts.gets ++ (to_be_bytes w64 d.counts.sets ++ to_be_bytes w64 d.counts.hits)))
before (Long Items) d =
    head d ++ (call_text (call_in d) ++ tally_code ∷ (to_be_bytes w64 d.counts.gets ++ (to_be_bytes w64 d.counts.sets ++ (to_be_bytes w64 d.counts.hits ++ to_be_bytes w64 d.counts.misses))))
before (Bytes Key) d = head d ++ (code_of d.kind ∷ d.size ∷ [])
before (Bytes Value) d = head d ++ (to_value d ++ to_be_bytes w32 d.size)
before (Bytes FoundValue) d = head d ++ (call_text (call_in d) ++ hit_code ∷ (to_be_bytes w32 d.found_flags ++ (to_be_bytes w64 d.found_unique ++ to_be_bytes w32 d.size)))
before due d = []

-- the first `at` bytes, up to the place where this is expected
abbrev pub bytes_of : Due → ReadState → ℕ → List ℕ
bytes_of (Byte Magic) s at = take at magic
bytes_of Nothing s at = front s.entries s.holds ++ 69 ∷ []
bytes_of due s at = front s.entries s.holds ++ before due s.draft

-- an entry comes after the last one
abbrev pub ComesAfter : Past → Entry → Type 0
ComesAfter past e = (past.stamp < e.stamp) ⊎ ((past.stamp ≡ e.stamp) × (past.shard < e.shard))

-- the stamp and the shard of an entry, and the connection of a hold, if there is one, and else 0
abbrev pub stamp_of : Option Entry → ℕ
stamp_of None = 0
stamp_of (Some e) = e.stamp

abbrev pub shard_of : Option Entry → ℕ
shard_of None = 0
shard_of (Some e) = e.shard

abbrev pub conn_of : Option Hold → ℕ
conn_of None = 0
conn_of (Some h) = h.conn

-- the entries and the holds so far are those of a journal
pub record Kept (es : List Entry) (hs : List Hold) (past : Past) : Type 0 where
  pub ordered : IsOrdered None es
  pub entries : AllByRecursion IsEntry es
  pub fits : AllByRecursion FitsEntry es
  pub rising : AreByConnection 0 hs
  pub holds : AllByRecursion IsHold hs
  pub stamp_is : past.stamp ≡ stamp_of (last_one es)
  pub shard_is : past.shard ≡ shard_of (last_one es)
  pub conn_is : past.conn ≡ conn_of (last_one hs)
  pub next : (e : Entry) → ComesAfter past e → IsOrdered None (es ++ e ∷ [])
  pub next_hold : (h : Hold) → past.conn ≤ h.conn → AreByConnection 0 (hs ++ h ∷ [])

-- what is known of an entry after its stamp, its shard, and so on
abbrev pub StampKnown : Past → Draft → List Hold → Type 0
StampKnown past d hs = (hs ≡ []) × (0 < d.stamp) × (d.stamp < 2 ^ 60) × (past.stamp ≤ d.stamp)

abbrev pub ShardKnown : Past → Draft → List Hold → Type 0
ShardKnown past d hs = StampKnown past d hs × (d.shard < 256) × ((past.stamp < d.stamp) ⊎ ((past.stamp ≡ d.stamp) × (past.shard < d.shard)))

abbrev pub ConnectionKnown : Past → Draft → List Hold → Type 0
ConnectionKnown past d hs = ShardKnown past d hs × (d.conn < 4096)

abbrev pub IndexKnown : Past → Draft → List Hold → Type 0
IndexKnown past d hs = ConnectionKnown past d hs × (d.index < 2 ^ 40)

abbrev pub HeadKnown : Past → Draft → List Hold → Type 0
HeadKnown past d hs = IndexKnown past d hs × (d.part < 2 ^ 32)

abbrev pub CallKnown : Past → Draft → List Hold → Type 0
CallKnown past d hs = HeadKnown past d hs × IsCall (call_in d) × FitsCall (call_in d)

abbrev pub FoundKnown : Past → Draft → List Hold → Type 0
FoundKnown past d hs = CallKnown past d hs × (d.found_flags < 2 ^ 32) × (d.found_unique < 2 ^ 64)

-- what is known of a tally after its numbers of gets, of sets, and so on
abbrev pub GetsKnown : Past → Draft → List Hold → Type 0
GetsKnown past d hs = CallKnown past d hs × (d.counts.gets < 2 ^ 64)

abbrev pub SetsKnown : Past → Draft → List Hold → Type 0
SetsKnown past d hs = GetsKnown past d hs × (d.counts.sets < 2 ^ 64)

abbrev pub HitsKnown : Past → Draft → List Hold → Type 0
HitsKnown past d hs = SetsKnown past d hs × (d.counts.hits < 2 ^ 64)

abbrev pub MissesKnown : Past → Draft → List Hold → Type 0
MissesKnown past d hs = HitsKnown past d hs × (d.counts.misses < 2 ^ 64)

-- what is known where this is expected
abbrev pub Known : Due → Past → Draft → List Hold → Type 0
Known (Byte CallCode) past d hs = HeadKnown past d hs
Known (Byte KeyLength) past d hs = HeadKnown past d hs × ((fields_in d).key ≡ true)
Known (Byte ReplyCode) past d hs = CallKnown past d hs
Known (Number Shard) past d hs = StampKnown past d hs
Known (Number Connection) past d hs = ShardKnown past d hs
Known (Number Part) past d hs = IndexKnown past d hs
Known (Number Flags) past d hs = HeadKnown past d hs × KeyKnown d × ((fields_in d).flags ≡ true)
Known (Number ValueLength) past d hs = HeadKnown past d hs × KeyKnown d × FlagsKnown d × NumberKnown d × ((fields_in d).value ≡ true)
Known (Number FoundFlags) past d hs = CallKnown past d hs
Known (Number FoundLength) past d hs = FoundKnown past d hs
Known (Number HoldConnection) past d hs = ⊤
Known (Number HoldCore) past d hs = (past.conn ≤ d.conn) × (d.conn < 4096)
Known (Number HoldCount) past d hs = (past.conn ≤ d.conn) × (d.conn < 4096) × (d.core < 64)
Known (Long Stamp) past d hs = hs ≡ []
Known (Long Index) past d hs = ConnectionKnown past d hs
Known (Long CallNumber) past d hs = HeadKnown past d hs × KeyKnown d × FlagsKnown d × ((fields_in d).number ≡ true)
Known (Long FoundUnique) past d hs = CallKnown past d hs × (d.found_flags < 2 ^ 32)
Known (Long ReplyNumber) past d hs = CallKnown past d hs
Known (Long Gets) past d hs = CallKnown past d hs
Known (Long Sets) past d hs = GetsKnown past d hs
Known (Long Hits) past d hs = SetsKnown past d hs
Known (Long Misses) past d hs = HitsKnown past d hs
Known (Long Items) past d hs = MissesKnown past d hs
Known (Bytes Key) past d hs = HeadKnown past d hs × ((fields_in d).key ≡ true) × (d.size ≤ 250)
Known (Bytes Value) past d hs = HeadKnown past d hs × KeyKnown d × FlagsKnown d × NumberKnown d × ((fields_in d).value ≡ true) × (d.size ≤ value_limit)
Known (Bytes FoundValue) past d hs = FoundKnown past d hs × (d.size ≤ value_limit)
Known due past d hs = ⊤

-- what is known of what is expected after `at` bytes
abbrev pub FieldKnown : Due → ReadState → ℕ → Type 0
FieldKnown (Byte Magic) s at = (at < 8) × (s.entries ≡ []) × (s.holds ≡ [])
FieldKnown (Bytes field) s at = 0 < s.draft.size
FieldKnown due s at = ⊤

-- a text that leads to this without a fault
pub record IsReadTo (due : Due) (s : ReadState) (text : List ℕ) : Type 0 where
  pub bytes : text ≡ bytes_of due s (length text)
  pub kept : Kept s.entries s.holds s.past
  pub field : FieldKnown due s (length text)
  pub known : Known due s.past s.draft s.holds

-- the text leads to this state
abbrev pub LeadTo : ReadState → List ℕ → List ⊤ → Type 0
LeadTo s text given = IsReadTo s.due s text

-- where a whole field leads
abbrev pub Leads : List ℕ → Done → Type 0
Leads text done = After LeadTo text [] done
