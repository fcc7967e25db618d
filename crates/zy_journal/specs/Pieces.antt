-- The texts of an entry that are put together before they are written, and the bytes between them, which are lent. No
-- public clause cites this module.
use Rattle.std.specs.Prelude.{ℕ, List, [], ◌∷◌, ◌++◌, length, Option, None, Some}
use Rattle.std.specs.Int.{to_be_bytes, w32, w64}
use Rattle.mc_calls.specs.declared.call.Call.{Call}
use Rattle.mc_calls.specs.declared.call_reply.CallReply.{CallReply}
use Rattle.mc_calls.specs.Call.{key_of}
use Rattle.mc_calls.specs.Code.{call_code, call_flags, call_number, call_value}
use Rattle.mc_calls.specs.Code.{reply_code, reply_flags, reply_number, reply_value, reply_counts}
use Rattle.zy_journal.specs.Journal.{field_text, key_text, counts_text}

-- the bytes of a field; none if it is not there
abbrev pub lent_bytes : Option (List ℕ) → List ℕ
lent_bytes None = []
lent_bytes (Some bytes) = bytes

-- what stands before the bytes of a value, if it is there
abbrev pub value_head : Option (List ℕ) → List ℕ
value_head None = []
value_head (Some value) = to_be_bytes w32 (length value)

-- what stands before the bytes of a value, with the flags and the number
abbrev pub fields_head : Option ℕ → Option ℕ → Option (List ℕ) → List ℕ
fields_head flags number value =
    field_text (to_be_bytes w32) flags ++ (field_text (to_be_bytes w64) number ++ value_head value)

-- a call up to its value
abbrev pub call_head : Call → List ℕ
call_head call =
    call_code call
    ∷ (field_text key_text (key_of call) ++ fields_head (call_flags call) (call_number call) (call_value call))

-- a reply up to its value
abbrev pub reply_head : CallReply → List ℕ
reply_head reply =
    reply_code reply
    ∷ (field_text counts_text (reply_counts reply)
    ++ fields_head (reply_flags reply) (reply_number reply) (reply_value reply))
