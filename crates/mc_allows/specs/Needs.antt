-- What an answer shows of what was said to a call, what this needs of the item before the call, and what it surely
-- leaves. These tables are part of the program: laws hold them against `Allows`.
use Rattle.std.specs.Prelude.{◌≡◌, ℕ, zero, suc, ◌+◌, ◌-◌, ◌%◌, ◌^◌, nat_lt, if◌then◌else◌, Bool, true, false}
use Rattle.mc_calls.specs.declared.call.Call.{Call}
use Rattle.mc_calls.specs.declared.call.Call.TheVariants as Calls
use Rattle.mc_calls.specs.declared.call_reply.CallReply.{CallReply}
use Rattle.mc_calls.specs.declared.call_reply.CallReply.TheVariants as Replies
use Rattle.mc_calls.specs.Told.{told}
use Rattle.mc_allows.specs.declared.said.Said.{Said}
use Rattle.mc_allows.specs.declared.said.Said.TheVariants.{Replied, Failed}
use Rattle.mc_allows.specs.declared.shown.Shown.{Shown}
use Rattle.mc_allows.specs.declared.shown.Shown.TheVariants.{Nothing, NoFailure, Reply, SomeHit, HitWith, Failure}
use Rattle.mc_allows.specs.declared.fact.Fact.{Fact}
use Rattle.mc_allows.specs.declared.fact.Fact.TheVariants.{Unknown, Never, Absent, Present, Item, Value, Number, Counted}
use Rattle.mc_allows.specs.declared.fact.Fact.TheVariants.{Ending, Beginning}

-- ---- what is shown

-- a call may have failed, by what is shown
abbrev pub may_have_failed : Shown → Bool
may_have_failed Nothing = true
may_have_failed Failure = true
may_have_failed shown = false

-- the call may have got this reply, by what is shown
abbrev pub SuitsReply : Shown → CallReply → Type 0
SuitsReply Nothing reply = Unit {0}
SuitsReply NoFailure reply = Unit {0}
SuitsReply (Reply shown) reply = told reply ≡ told shown
SuitsReply SomeHit (Replies.Hit flags unique value) = Unit {0}
SuitsReply SomeHit reply = ⊥
SuitsReply (HitWith shown) (Replies.Hit flags unique value) = value ≡ shown
SuitsReply (HitWith shown) reply = ⊥
SuitsReply Failure reply = reply ≡ Replies.TooLarge

-- this may have been said to the call, by what is shown
abbrev pub Suits : Shown → Said → Type 0
Suits shown (Replied reply) = SuitsReply shown reply
Suits shown Failed = may_have_failed shown ≡ true

-- ---- needs

-- what a call that stored needs
abbrev pub need_stored : Call → Fact
need_stored (Calls.Set key flags value) = Unknown
need_stored (Calls.Add key flags value) = Absent
need_stored call = Present

-- what a call that did not store needs; a join also does not store if the value would be too long
abbrev pub need_not_stored : Call → Fact
need_not_stored (Calls.Add key flags value) = Present
need_not_stored (Calls.Append key piece) = Unknown
need_not_stored (Calls.Prepend key piece) = Unknown
need_not_stored call = Absent

-- what a decr by this amount that counted to this number needs
abbrev pub taken_from : ℕ → ℕ → Fact
taken_from amount zero = Present
taken_from amount (suc n) = if nat_lt (suc n + amount) (2 ^ 64) then Number (suc n + amount) else Never

-- what a call that counted to this number needs
abbrev pub need_counted : Call → ℕ → Fact
need_counted (Calls.Incr key amount) number = Number ((number + (2 ^ 64 - amount % 2 ^ 64)) % 2 ^ 64)
need_counted (Calls.Decr key amount) number = taken_from amount number
need_counted call number = Unknown

-- what a reply to a call needs
abbrev pub need_of_reply : Call → CallReply → Fact
need_of_reply call Replies.Miss = Absent
need_of_reply call (Replies.Hit flags unique value) = Item flags value
need_of_reply call Replies.Stored = need_stored call
need_of_reply call Replies.NotStored = need_not_stored call
need_of_reply call Replies.Exists = Present
need_of_reply call Replies.NotFound = Absent
need_of_reply call Replies.Deleted = Present
need_of_reply call (Replies.Number number) = need_counted call number
need_of_reply call Replies.NotNumber = Present
need_of_reply call Replies.TooLarge = Present
need_of_reply call Replies.Flushed = Unknown
need_of_reply call (Replies.Tally gets sets hits misses items) = Unknown

-- what all that may have been said to a call needs
abbrev pub need_of : Call → Shown → Fact
need_of call Nothing = Unknown
need_of call NoFailure = Unknown
need_of call (Reply reply) = need_of_reply call reply
need_of call SomeHit = Present
need_of call (HitWith value) = Value value
need_of call Failure = Unknown

-- ---- what is left

-- what a call that stored leaves
abbrev pub left_stored : Call → Fact
left_stored (Calls.Set key flags value) = Item flags value
left_stored (Calls.Add key flags value) = Item flags value
left_stored (Calls.Replace key flags value) = Item flags value
left_stored (Calls.Cas flags key unique value) = Item flags value
left_stored (Calls.Append key piece) = Ending piece
left_stored (Calls.Prepend key piece) = Beginning piece
left_stored call = Unknown

-- what a reply to a call surely leaves
abbrev pub left_by_reply : Call → CallReply → Fact
left_by_reply call Replies.Miss = Absent
left_by_reply call (Replies.Hit flags unique value) = Item flags value
left_by_reply call Replies.Stored = left_stored call
left_by_reply call Replies.NotStored = need_not_stored call
left_by_reply call Replies.Exists = Present
left_by_reply call Replies.NotFound = Absent
left_by_reply call Replies.Deleted = Absent
left_by_reply call (Replies.Number number) = Counted number
left_by_reply call Replies.NotNumber = Present
left_by_reply call Replies.TooLarge = Present
left_by_reply call Replies.Flushed = Absent
left_by_reply call (Replies.Tally gets sets hits misses items) = Unknown

-- what a call leaves, whatever was said to it
abbrev pub left_always : Call → Fact
left_always (Calls.Delete key) = Absent
left_always Calls.Flush = Absent
left_always call = Unknown

-- what a call that did not fail leaves
abbrev pub left_unfailed : Call → Fact
left_unfailed (Calls.Set key flags value) = Item flags value
left_unfailed (Calls.Add key flags value) = Present
left_unfailed call = left_always call

-- what all that may have been said to a call surely leaves
abbrev pub left_by : Call → Shown → Fact
left_by call Nothing = left_always call
left_by call NoFailure = left_unfailed call
left_by call (Reply reply) = left_by_reply call reply
left_by call SomeHit = Present
left_by call (HitWith value) = Value value
left_by call Failure = Unknown
