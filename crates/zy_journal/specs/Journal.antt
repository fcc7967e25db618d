-- The journal format, docs/FORMATS.md, "Journal": its values, their one encoding, and which values have one.
use Rattle.std.specs.Prelude.{ℕ, ◌<◌, ◌≤◌, List, [], ◌∷◌, ◌++◌, length, flat_map, codes, Option, None, Some, ⊤}
use Rattle.std.specs.List.{AllByRecursion}
use Rattle.std.specs.Int.{to_be_bytes, w32, w64}
use Rattle.mc_calls.specs.declared.call.Call.{Call}
use Rattle.mc_calls.specs.declared.call_reply.CallReply.{CallReply}
use Rattle.mc_calls.specs.declared.entry.Entry.{Entry}
use Rattle.mc_calls.specs.declared.hold.Hold.{Hold}
use Rattle.mc_calls.specs.declared.tallied.Tallied.{Tallied}
use Rattle.mc_calls.specs.Call.{key_of}
use Rattle.mc_calls.specs.Code.{call_code, call_flags, call_number, call_value, reply_code, reply_flags, reply_number}
use Rattle.mc_calls.specs.Code.{reply_value, reply_counts}
use Rattle.mc_calls.specs.Bounds.{IsCall, IsReply}
use Rattle.zy_base.specs.Limits.{connection_limit, shard_limit, core_limit, hold_limit, command_limit, stamp_limit}
use Rattle.mc_calls.specs.Order.{IsOrdered}
use Rattle.zy_journal.specs.declared.journal.Journal.{Journal}

-- ---- spelling

-- the bytes with which a journal begins
abbrev pub magic : List ℕ
magic = codes "ZYGJRN1\n"

-- a key: its length, one byte, and its bytes
abbrev pub key_text : List ℕ → List ℕ
key_text key = length key ∷ key

-- a value: its length, four bytes, and its bytes
abbrev pub value_text : List ℕ → List ℕ
value_text value = to_be_bytes w32 (length value) ++ value

-- the five numbers of a tally, eight bytes each
abbrev pub counts_text : Tallied → List ℕ
counts_text counts =
    to_be_bytes w64 counts.gets ++ (to_be_bytes w64 counts.sets ++ (to_be_bytes w64 counts.hits
    ++ (to_be_bytes w64 counts.misses ++ to_be_bytes w64 counts.items)))

-- the text of a field, or nothing if there is none
abbrev pub field_text : {X : Type 0} → (X → List ℕ) → Option X → List ℕ
field_text text None = []
field_text text (Some x) = text x

-- the flags, four bytes, a number, eight bytes, and a value, each if it is there
abbrev pub fields_text : Option ℕ → Option ℕ → Option (List ℕ) → List ℕ
fields_text flags number value =
    field_text (to_be_bytes w32) flags ++ (field_text (to_be_bytes w64) number ++ field_text value_text value)

-- a call: its code, its key and its other fields
unfoldable pub call_text : Call → List ℕ
call_text call =
    call_code call
    ∷ (field_text key_text (key_of call) ++ fields_text (call_flags call) (call_number call) (call_value call))

-- a reply: its code and its fields
unfoldable pub reply_text : CallReply → List ℕ
reply_text reply =
    reply_code reply
    ∷ (field_text counts_text (reply_counts reply)
    ++ fields_text (reply_flags reply) (reply_number reply) (reply_value reply))

-- the tag of an entry, when and where it was, and whose call it is
unfoldable pub entry_head : Entry → List ℕ
entry_head e =
    74 ∷ (to_be_bytes w64 e.stamp ++ (to_be_bytes w32 e.shard
    ++ (to_be_bytes w32 e.tag.conn ++ (to_be_bytes w64 e.tag.index ++ to_be_bytes w32 e.tag.part))))

-- an entry
unfoldable pub entry_text : Entry → List ℕ
entry_text e = entry_head e ++ (call_text e.call ++ reply_text e.reply)

-- a hold: its tag, its connection, its core and its count
unfoldable pub hold_text : Hold → List ℕ
hold_text h = 72 ∷ (to_be_bytes w32 h.conn ++ (to_be_bytes w32 h.core ++ to_be_bytes w32 h.count))

-- a journal: its magic, its entries, its holds and the end
unfoldable pub journal_bytes : Journal → List ℕ
journal_bytes journal = magic ++ (flat_map entry_text journal.entries ++ (flat_map hold_text journal.holds ++ 69 ∷ []))

-- ---- validity

-- an entry's numbers, call and reply are within their bounds
pub record IsEntry (e : Entry) : Type 0 where
  pub some_stamp : 0 < e.stamp
  pub few_stamps : e.stamp < stamp_limit
  pub few_shards : e.shard < shard_limit
  pub few_connections : e.tag.conn < connection_limit
  pub few_commands : e.tag.index < command_limit
  pub call : IsCall e.call
  pub reply : IsReply e.reply

-- a hold's numbers are within their bounds
pub record IsHold (h : Hold) : Type 0 where
  pub few_connections : h.conn < connection_limit
  pub few_cores : h.core < core_limit
  pub some_commands : 0 < h.count
  pub few_commands : h.count ≤ hold_limit

-- the holds are in the order of connections, from this one on
abbrev pub AreByConnection : ℕ → List Hold → Type 0
AreByConnection connection [] = ⊤
AreByConnection connection (h ∷ hs) = (connection ≤ h.conn) × AreByConnection h.conn hs

-- a journal that has an encoding
pub record IsJournal (journal : Journal) : Type 0 where
  pub ordered : IsOrdered None journal.entries
  pub entries : AllByRecursion IsEntry journal.entries
  pub rising : AreByConnection 0 journal.holds
  pub holds : AllByRecursion IsHold journal.holds
