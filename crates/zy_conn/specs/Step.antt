-- The steps of a connection's work. No public clause cites this module.
use Rattle.std.specs.Prelude.{◌≡◌, ◌⊎◌, ℕ, ◌+◌, ◌-◌, ◌≤◌, ◌^◌, List, [], ◌∷◌, ◌++◌, length, Some, slice_get, ⊤}
use Rattle.mc_calls.specs.declared.call_reply.CallReply.{CallReply}
use Rattle.mc_calls.specs.declared.entry.Entry.{Entry}
use Rattle.mc_calls.specs.Kind.{MayAnswer}
use Rattle.mc_parse.specs.declared.shard_call.ShardCall.{ShardCall}
use Rattle.mc_parse.specs.Calls.{due_of, tag_of}
use Rattle.mc_reply.specs.Text.{text}
use Rattle.mc_store.specs.Pass.{Passed}
use Rattle.mc_store.specs.Call.{WasBusy}
use Rattle.zy_conn.specs.declared.hold_end.HoldEnd.{HoldEnd}
use Rattle.zy_conn.specs.declared.hold_end.HoldEnd.TheVariants.{Drained, Limit, Spent, Busy}
use Rattle.zy_conn.specs.declared.calling.Made.{Made}
use Rattle.zy_conn.specs.declared.calling.Made.TheVariants.{Call, Done, Stopped}
use Rattle.zy_conn.specs.Work.{Start, idle, raw, going, Worked, mark_of}
use Rattle.zy_conn.specs.Hold.{IsCallSpent, IsCommandSpent, FoundBusy}

-- ---- the command in progress

-- the command of what is begun is known, with its calls
abbrev pub IsGoing : Start → Type 0
IsGoing idle = ⊥
IsGoing (raw frame) = ⊥
IsGoing (going command calls replies) = ⊤

-- each of its calls was made
abbrev pub IsAllMade : Start → Type 0
IsAllMade idle = ⊥
IsAllMade (raw frame) = ⊥
IsAllMade (going command calls replies) = length calls ≤ length replies

-- the text of the command in progress, from the replies so far
abbrev pub text_begun : Start → List ℕ
text_begun idle = []
text_begun (raw frame) = []
text_begun (going command calls replies) = text command replies

-- the number of calls that are left to the command in progress
abbrev pub calls_left : Start → ℕ
calls_left idle = 0
calls_left (raw frame) = 0
calls_left (going command calls replies) = length calls - length replies

-- ---- the next call

-- the pass is the same, and has made no fewer steps
pub record SamePass (before after : Passed) : Type 0 where
  pub table : after.table ≡ before.table
  pub conn : after.conn ≡ before.conn
  pub steps : before.trace.steps ≤ after.trace.steps

-- this call was made as this part of a command
pub record IsMadeAsPart (connection index part : ℕ) (asked : ShardCall) (entry : Entry) : Type 0 where
  pub due : due_of entry ≡ record { tag = tag_of connection index part; call = asked }
  pub kind : MayAnswer asked.call entry.reply

-- why the next call was not made
abbrev pub CallStopsBy : ShardCall → Passed → Passed → HoldEnd → Type 0
CallStopsBy asked before after Drained = ⊥
CallStopsBy asked before after Limit = ⊥
CallStopsBy asked before after Spent = 2 ^ 40 ≤ length after.calls
CallStopsBy asked before after (Busy shard loaded found) =
    WasBusy asked.shard before.trace after.trace shard loaded found

-- one call, which is the next one, with the replies and the pass before and after it
module _ (index : ℕ) (asked : ShardCall) (replies : List CallReply) (before : Passed) (replies' : List CallReply)
    (after : Passed) where
  -- the result of making this call, which is the next one
  abbrev pub MakesThis : Made → Type 0
  MakesThis Call = (entry : Entry) × IsMadeAsPart before.conn index (length replies) asked entry
      × (after.calls ≡ before.calls ++ entry ∷ []) × (replies' ≡ replies ++ entry.reply ∷ [])
  MakesThis Done = ⊥
  MakesThis (Stopped end) = CallStopsBy asked before after end × (after.calls ≡ before.calls) × (replies' ≡ replies)

-- the next of these calls, with the replies and the pass before and after it
module _ (index : ℕ) (calls : List ShardCall) (replies : List CallReply) (before : Passed) (replies' : List CallReply)
    (after : Passed) where
  -- the result of making the next call
  abbrev pub Makes : Made → Type 0
  Makes Call = (asked : ShardCall) × (slice_get calls (length replies) ≡ Some asked)
      × (entry : Entry) × IsMadeAsPart before.conn index (length replies) asked entry
      × (after.calls ≡ before.calls ++ entry ∷ []) × (replies' ≡ replies ++ entry.reply ∷ [])
  Makes Done = (length calls ≤ length replies) × (after.calls ≡ before.calls) × (replies' ≡ replies)
  Makes (Stopped end) = (asked : ShardCall) × (slice_get calls (length replies) ≡ Some asked)
      × CallStopsBy asked before after end × (after.calls ≡ before.calls) × (replies' ≡ replies)

-- ---- the work

-- what every step keeps
pub record StepsOn (before after : Worked) : Type 0 where
  pub table : after.table ≡ before.table
  pub mark : mark_of after ≡ mark_of before
  pub steps : before.trace.steps ≤ after.trace.steps

-- why the work stops
abbrev pub StopsBy : Worked → Worked → HoldEnd → Type 0
StopsBy before after Drained = (after.begun ≡ idle) × (after.known ≡ [])
StopsBy before after Limit = ⊥
StopsBy before after Spent = IsCallSpent after ⊎ IsCommandSpent after
StopsBy before after (Busy shard loaded found) = FoundBusy before.trace after shard loaded found

-- the effect of the next call of the command in progress
abbrev pub MadeFrom : Worked → Worked → Made → Type 0
MadeFrom before after Call = calls_left before.begun ≡ calls_left after.begun + 1
MadeFrom before after Done = IsAllMade after.begun
MadeFrom before after (Stopped end) = StopsBy before after end
