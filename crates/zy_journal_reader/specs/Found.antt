-- Fields, calls, replies and records that a text begins with, each with the rest of the text. No public clause cites
-- this module.
use Rattle.std.specs.Prelude.{◌≡◌, ◌⊎◌, ℕ, ◌<◌, ◌≤◌, ◌^◌, ◌==◌, ◌&&◌, ◌||◌, nat_lt, nat_le, Bool, List, [], ◌∷◌, ◌++◌}
use Rattle.std.specs.Prelude.{IfSome}
use Rattle.std.specs.Int.{to_be_bytes, w32, w64}
use Rattle.mc_calls.specs.declared.call.Call.{Call}
use Rattle.mc_calls.specs.declared.call_reply.CallReply.{CallReply}
use Rattle.mc_calls.specs.declared.entry.Entry.{Entry}
use Rattle.mc_calls.specs.declared.entry.Tag.{Tag}
use Rattle.mc_calls.specs.declared.hold.Hold.{Hold}
use Rattle.mc_calls.specs.Bounds.{IsCall, IsReply, FitsCall, FitsReply, FitsEntry}
use Rattle.zy_base.specs.Limits.{connection_limit, shard_limit, command_limit, stamp_limit}
use Rattle.mc_calls.proofs.CodeLemmas.{there}
use Rattle.zy_journal.specs.Journal.{field_text, call_text, reply_text, entry_text, hold_text, IsEntry, IsHold}
use Rattle.zy_journal_reader.specs.declared.past.Past.{Past}
use Rattle.zy_journal_reader.specs.declared.records.heads.Head.{Head}
use Rattle.zy_journal_reader.specs.declared.due.Due.TheVariants.{Byte}
use Rattle.zy_journal_reader.specs.declared.due.ByteField.TheVariants as Bytes
use Rattle.zy_journal_reader.specs.Fields.{fresh}
use Rattle.zy_journal_reader.specs.Steps.{ReadState}

-- the text begins with this field, if the call has it, and the rest follows
pub record HasField {X : Type 0} (text_of : X → List ℕ) (Is : X → Type 0) (has : Bool) (text : List ℕ) (x : X)
    (rest : List ℕ) : Type 0 where
  pub spelled : text ≡ field_text text_of (there has x) ++ rest
  pub known : IfSome (there has x) Is

-- a call
pub record HasCall (text : List ℕ) (call : Call) (rest : List ℕ) : Type 0 where
  pub spelled : text ≡ call_text call ++ rest
  pub within : IsCall call
  pub fits : FitsCall call

-- a reply
pub record HasReply (text : List ℕ) (reply : CallReply) (rest : List ℕ) : Type 0 where
  pub spelled : text ≡ reply_text reply ++ rest
  pub within : IsReply reply
  pub fits : FitsReply reply

-- a stamp and a shard come after those of the last entry
abbrev pub AreAfter : Past → ℕ → ℕ → Type 0
AreAfter past stamp shard = (past.stamp < stamp) ⊎ ((past.stamp ≡ stamp) × (past.shard < shard))

-- whether an entry with this head may come next
abbrev pub is_next : Head → Past → Bool
is_next h past =
    nat_le 1 h.stamp && nat_lt h.stamp stamp_limit && nat_lt h.shard shard_limit
    && (nat_lt past.stamp h.stamp || (past.stamp == h.stamp && nat_lt past.shard h.shard))
    && nat_lt h.tag.conn connection_limit && nat_lt h.tag.index command_limit

-- the entry with this head
abbrev pub entry_at : Head → Call → CallReply → Entry
entry_at h call reply = record { tag = h.tag; shard = h.shard; call = call; reply = reply; stamp = h.stamp }

-- whose call an entry is: its connection, and the numbers of its command and of the call in that
pub record HasTag (text : List ℕ) (t : Tag) (rest : List ℕ) : Type 0 where
  pub spelled : text ≡ to_be_bytes w32 t.conn ++ (to_be_bytes w64 t.index ++ (to_be_bytes w32 t.part ++ rest))
  pub part : t.part < 2 ^ 32

-- what comes before the call of an entry
pub record HasHead (past : Past) (text : List ℕ) (h : Head) (rest : List ℕ) : Type 0 where
  pub spelled : text ≡ 74 ∷ (to_be_bytes w64 h.stamp ++ (to_be_bytes w32 h.shard ++ (to_be_bytes w32 h.tag.conn
      ++ (to_be_bytes w64 h.tag.index ++ (to_be_bytes w32 h.tag.part ++ rest)))))
  pub some_stamp : 0 < h.stamp
  pub few_stamps : h.stamp < stamp_limit
  pub few_shards : h.shard < shard_limit
  pub few_connections : h.tag.conn < connection_limit
  pub few_commands : h.tag.index < command_limit
  pub part : h.tag.part < 2 ^ 32
  pub comes : AreAfter past h.stamp h.shard

-- an entry that may come next
pub record HasEntry (past : Past) (text : List ℕ) (e : Entry) (rest : List ℕ) : Type 0 where
  pub spelled : text ≡ entry_text e ++ rest
  pub within : IsEntry e
  pub fits : FitsEntry e
  pub comes : AreAfter past e.stamp e.shard

-- a hold that may come next
pub record HasHold (past : Past) (text : List ℕ) (h : Hold) (rest : List ℕ) : Type 0 where
  pub spelled : text ≡ hold_text h ++ rest
  pub within : IsHold h
  pub comes : past.conn ≤ h.conn

-- no byte of the next record was read
pub record IsAtRecord (s : ReadState) : Type 0 where
  pub due : s.due ≡ Byte Bytes.Tag
  pub draft : s.draft ≡ fresh

-- the lists with one more entry
abbrev pub and_entry : ReadState → Entry → ReadState
and_entry s e = record s { entries = s.entries ++ e ∷ []; past = record s.past { stamp = e.stamp; shard = e.shard } }

-- the lists with one more hold
abbrev pub and_hold : ReadState → Hold → ReadState
and_hold s h = record s { holds = s.holds ++ h ∷ []; past = record s.past { conn = h.conn } }
