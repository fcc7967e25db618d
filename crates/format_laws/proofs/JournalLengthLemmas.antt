-- How many bytes the text of a journal has.
use Rattle.std.proofs.Common.{refl, ◌≡◌, ℕ, ◌+◌, ◌*◌, ◌<◌, ◌≤◌, ◌^◌, List, [], ◌∷◌, ◌++◌, length, length-append}
use Rattle.std.proofs.Common.{arith}
use Rattle.std.specs.Prelude.{Option, None, Some, IfSome, flat_map}
use Rattle.std.specs.List.{AllByRecursion}
use Rattle.std.specs.Int.{to_be_bytes, w32, w64}
use Rattle.mc_calls.specs.declared.call.Call.{Call}
use Rattle.mc_calls.specs.declared.call_reply.CallReply.{CallReply}
use Rattle.mc_calls.specs.declared.entry.Entry.{Entry}
use Rattle.mc_calls.specs.declared.hold.Hold.{Hold}
use Rattle.mc_calls.specs.declared.tallied.Tallied.{Tallied}
use Rattle.mc_calls.specs.Call.{key_of}
use Rattle.mc_calls.specs.Code.{call_flags, call_number, call_value, reply_flags, reply_number, reply_value}
use Rattle.mc_calls.specs.Code.{reply_counts}
use Rattle.mc_calls.specs.Bounds.{IsKey, IsValue, IsCall, IsReply}
use Rattle.mc_calls.proofs.CodeLemmas.{key_within, value_within}
use Rattle.mc_calls.specs.declared.call_reply.CallReply.TheVariants as Replies
use Rattle.zy_journal.specs.declared.journal.Journal.{Journal}
use Rattle.zy_journal.specs.Journal.{magic, key_text, value_text, counts_text, field_text, fields_text, call_text}
use Rattle.zy_journal.specs.Journal.{reply_text, entry_head, entry_text, hold_text, journal_bytes, IsEntry}

-- ---- fields

key_few : (key : Option (List ℕ)) → IfSome key IsKey → length (field_text key_text key) ≤ 251
key_few None is = omega arith
key_few (Some key) is = let few = is.1 in omega arith

flags_few : (flags : Option ℕ) → length (field_text (to_be_bytes w32) flags) ≤ 4
flags_few None = omega arith
flags_few (Some n) = omega arith

number_few : (number : Option ℕ) → length (field_text (to_be_bytes w64) number) ≤ 8
number_few None = omega arith
number_few (Some n) = omega arith

value_few : (value : Option (List ℕ)) → IfSome value IsValue → length (field_text value_text value) ≤ 1048580
value_few None is = omega arith
value_few (Some value) is = let size = length-append (to_be_bytes w32 (length value)) value in omega (arith, is, size)

counts_few : (counts : Option Tallied) → length (field_text counts_text counts) ≤ 40
counts_few None = omega arith
counts_few (Some counts) = omega arith

fields_few : (flags number : Option ℕ) (value : Option (List ℕ)) → IfSome value IsValue → length (fields_text flags number value) ≤ 1048592
fields_few flags number value is =
    let all = length-append (field_text (to_be_bytes w32) flags) (field_text (to_be_bytes w64) number ++ field_text value_text value) in
    let two = length-append (field_text (to_be_bytes w64) number) (field_text value_text value) in
    omega (arith, all, two, flags_few flags, number_few number, value_few value is)

-- ---- entries and holds

-- the value of a reply that is within its bounds is
reply_value_within : (reply : CallReply) → IsReply reply → IfSome (reply_value reply) IsValue
reply_value_within (Replies.Hit flags unique value) is = is
reply_value_within reply is = tt

call_few : (call : Call) → IsCall call → length (call_text call) ≤ 1048844
unfolding call_text
call_few call is =
    let all = length-append (field_text key_text (key_of call)) (fields_text (call_flags call) (call_number call) (call_value call)) in
    omega (arith, all, key_few (key_of call) (key_within call is), fields_few (call_flags call) (call_number call) (call_value call) (value_within call is))

reply_few : (reply : CallReply) → IsReply reply → length (reply_text reply) ≤ 1048633
unfolding reply_text
reply_few reply is =
    let all = length-append (field_text counts_text (reply_counts reply)) (fields_text (reply_flags reply) (reply_number reply) (reply_value reply)) in
    omega (arith, all, counts_few (reply_counts reply), fields_few (reply_flags reply) (reply_number reply) (reply_value reply) (reply_value_within reply is))

head_is : (e : Entry) → length (entry_head e) ≡ 29
unfolding entry_head
head_is e = refl

-- an entry has fewer than 2^22 bytes
pub entry_few : (e : Entry) → IsEntry e → length (entry_text e) < 2 ^ 22
unfolding entry_text
entry_few e is =
    let all = length-append (entry_head e) (call_text e.call ++ reply_text e.reply) in
    let two = length-append (call_text e.call) (reply_text e.reply) in
    omega (arith, all, two, head_is e, call_few e.call is.call, reply_few e.reply is.reply)

-- a hold has 13
pub hold_is : (h : Hold) → length (hold_text h) ≡ 13
unfolding hold_text
hold_is h = refl

-- ---- journals

entries_few : (es : List Entry) → AllByRecursion IsEntry es → length (flat_map entry_text es) ≤ length es * 4194303
entries_few [] all = omega arith
entries_few (e ∷ es) all =
    let one = length-append (entry_text e) (flat_map entry_text es) in
    omega (arith, one, entry_few e all.0, entries_few es all.1)

holds_are : (hs : List Hold) → length (flat_map hold_text hs) ≡ length hs * 13
holds_are [] = omega arith
holds_are (h ∷ hs) = let one = length-append (hold_text h) (flat_map hold_text hs) in omega (arith, one, hold_is h, holds_are hs)

pub journal_few : (journal : Journal) → AllByRecursion IsEntry journal.entries → length (journal_bytes journal) ≤ 9 + length journal.entries * 4194303 + length journal.holds * 13
unfolding journal_bytes
journal_few journal all =
    let entries = flat_map entry_text journal.entries in
    let holds = flat_map hold_text journal.holds in
    let whole = length-append magic (entries ++ (holds ++ 69 ∷ [])) in
    let body = length-append entries (holds ++ 69 ∷ []) in
    let end = length-append holds (69 ∷ []) in
    omega (arith, whole, body, end, entries_few journal.entries all, holds_are journal.holds)
