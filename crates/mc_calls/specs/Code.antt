-- The codes of calls and replies in a journal, and the fields that follow them: docs/FORMATS.md, "Journal". The table
-- of calls (`Table`) says which fields a call has.
use Rattle.std.specs.Prelude.{ℕ, ◌==◌, if◌then◌else◌, List, Option, None, Some}
use Rattle.mc_calls.specs.declared.call.Call.{Call}
use Rattle.mc_calls.specs.declared.call_kind.CallKind.{CallKind}
use Rattle.mc_calls.specs.declared.call_kind.CallFields.{CallFields}
use Rattle.mc_calls.specs.declared.call_reply.CallReply.{CallReply}
use Rattle.mc_calls.specs.declared.call_reply.CallReply.TheVariants as Replies
use Rattle.mc_calls.specs.declared.tallied.Tallied.{Tallied}
use Rattle.mc_calls.specs.Table.{CallRow, row_of, parts_of}
pub use Rattle.mc_calls.specs.Table.{having, kind_of, call_of, last_call_code}

-- ---- calls

-- the row of a call
abbrev pub call_row : Call → CallRow
call_row call = row_of (parts_of call).kind

-- the code of each kind
abbrev pub code_of : CallKind → ℕ
code_of kind = (row_of kind).code

-- the fields of each kind
abbrev pub fields_of : CallKind → CallFields
fields_of kind = (row_of kind).fields

-- the kind of a call
abbrev pub call_kind : Call → CallKind
call_kind call = (parts_of call).kind

-- the code of a call
abbrev pub call_code : Call → ℕ
call_code call = code_of (call_kind call)

-- the flags of a call, if it has some
abbrev pub call_flags : Call → Option ℕ
call_flags call = (parts_of call).flags

-- the unique of a cas, and the amount of an incr or a decr
abbrev pub call_number : Call → Option ℕ
call_number call = (parts_of call).number

-- the value of a call, if it has one
abbrev pub call_value : Call → Option (List ℕ)
call_value call = (parts_of call).value

-- ---- replies

-- the code of a hit
abbrev pub hit_code : ℕ
hit_code = 2

-- the code of a number
abbrev pub number_code : ℕ
number_code = 8

-- the code of a tally
abbrev pub tally_code : ℕ
tally_code = 12

-- the greatest code of a reply
abbrev pub last_reply_code : ℕ
last_reply_code = 12

-- the code of each reply
abbrev pub reply_code : CallReply → ℕ
reply_code Replies.Miss = 1
reply_code (Replies.Hit flags unique value) = hit_code
reply_code Replies.Stored = 3
reply_code Replies.NotStored = 4
reply_code Replies.Exists = 5
reply_code Replies.NotFound = 6
reply_code Replies.Deleted = 7
reply_code (Replies.Number number) = number_code
reply_code Replies.NotNumber = 9
reply_code Replies.TooLarge = 10
reply_code Replies.Flushed = 11
reply_code (Replies.Tally gets sets hits misses items) = tally_code

-- the flags of a hit
abbrev pub reply_flags : CallReply → Option ℕ
reply_flags (Replies.Hit flags unique value) = Some flags
reply_flags reply = None

-- the unique of a hit, and the number that a value is now
abbrev pub reply_number : CallReply → Option ℕ
reply_number (Replies.Hit flags unique value) = Some unique
reply_number (Replies.Number number) = Some number
reply_number reply = None

-- the value of a hit
abbrev pub reply_value : CallReply → Option (List ℕ)
reply_value (Replies.Hit flags unique value) = Some value
reply_value reply = None

-- the five numbers of a tally
abbrev pub reply_counts : CallReply → Option Tallied
reply_counts (Replies.Tally gets sets hits misses items) =
    Some (record { gets = gets; sets = sets; hits = hits; misses = misses; items = items })
reply_counts reply = None

-- the tally that has five numbers
abbrev pub tally : Tallied → CallReply
tally counts = Replies.Tally counts.gets counts.sets counts.hits counts.misses counts.items

-- the reply that has a code and no fields
abbrev pub plain_reply : ℕ → CallReply
plain_reply code =
    if code == 1 then Replies.Miss else if code == 3 then Replies.Stored else if code == 4 then Replies.NotStored
    else if code == 5 then Replies.Exists else if code == 6 then Replies.NotFound else if code == 7 then Replies.Deleted
    else if code == 9 then Replies.NotNumber else if code == 10 then Replies.TooLarge else Replies.Flushed
