-- Holds: which holds a connection can have, what a hold records, and why it ends.
use Rattle.std.specs.Prelude.{◌≡◌, ◌≢◌, ◌⊎◌, ℕ, ◌+◌, ◌-◌, ◌<◌, ◌≤◌, ◌^◌, List, [], ◌∷◌, ◌++◌, length, Option, None}
use Rattle.std.specs.Prelude.{Some, IsSome, slice_get, ⊤}
use Rattle.mc_calls.specs.declared.hold.Hold.{Hold}
use Rattle.mc_calls.specs.Held.{held_in}
use Rattle.mc_parse.specs.declared.shard_call.ShardCall.{ShardCall}
use Rattle.mc_store.specs.declared.store.view.Trace.{Trace}
use Rattle.mc_store.specs.Call.{WasBusy}
use Rattle.zy_conn.specs.declared.hold_end.HoldEnd.{HoldEnd}
use Rattle.zy_conn.specs.declared.hold_end.HoldEnd.TheVariants.{Drained, Limit, Spent, Busy}
use Rattle.zy_conn.specs.Work.{Start, idle, raw, going, Worked}
use Rattle.zy_conn.specs.Block.{Blocked}

-- ---- the holds of a connection

-- one of this number of cores held this connection, and finished 1 to 64 of its commands
pub record IsHoldOf (cores connection : ℕ) (hold : Hold) : Type 0 where
  pub some : 1 ≤ hold.count
  pub limit : hold.count ≤ 64
  pub core_is : hold.core < cores
  pub conn_is : hold.conn ≡ connection

-- each is a hold of this connection by one of these cores
abbrev pub EachIsHold : ℕ → ℕ → List Hold → Type 0
EachIsHold cores connection [] = ⊤
EachIsHold cores connection (hold ∷ holds) = IsHoldOf cores connection hold × EachIsHold cores connection holds

-- the holds, by at most 64 cores, of a connection with `finished` finished commands
pub record AreHolds (cores connection finished : ℕ) (holds : List Hold) : Type 0 where
  pub few : cores ≤ 64
  pub each : EachIsHold cores connection holds
  pub all : held_in holds ≡ finished

-- ---- what a hold records

-- a hold of a connection by a core, in which `count` commands were finished
abbrev pub hold_by : ℕ → ℕ → ℕ → Hold
hold_by core connection count = record { core = core; conn = connection; count = count }

-- if commands were finished, there is one more hold, with the core, the connection and their
-- number; otherwise the holds stay as they were
pub record IsRecorded (core : ℕ) (before after : Blocked) : Type 0 where
  pub none : after.work.finished ≡ before.work.finished → after.holds ≡ before.holds
  pub one : before.work.finished < after.work.finished
      → after.holds ≡ before.holds ++ hold_by core before.work.conn (after.work.finished - before.work.finished) ∷ []

-- ---- why a hold ends

-- the next call of the command in progress, if one is left to make
abbrev pub call_due : Start → Option ShardCall
call_due idle = None
call_due (raw frame) = None
call_due (going command calls replies) = slice_get calls (length replies)

-- a call is left to make, but the pass has made as many as it can
abbrev pub IsCallSpent : Worked → Type 0
IsCallSpent work = IsSome (call_due work.begun) × (2 ^ 40 ≤ length work.calls)

-- a command is left to begin, but as many as can be counted are finished
abbrev pub IsCommandSpent : Worked → Type 0
IsCommandSpent work = (work.begun ≡ idle) × (work.known ≢ []) × (work.finished ≡ 2 ^ 40)

-- the next call found its shard busy: these numbers were loaded after the steps of `before`
pub record FoundBusy (before : Trace) (work : Worked) (shard loaded found : ℕ) : Type 0 where
  pub asked : ShardCall
  pub asked_is : call_due work.begun ≡ Some asked
  pub busy : WasBusy asked.shard before work.trace shard loaded found

-- why a hold ended, in terms of the work before it and after it
abbrev pub HeldTo : Worked → Worked → HoldEnd → Type 0
HeldTo before after Drained = (after.begun ≡ idle) × (after.known ≡ [])
HeldTo before after Limit = (after.finished ≡ before.finished + 64) × (after.known ≢ [])
HeldTo before after Spent =
    (after.finished < before.finished + 64) × (IsCallSpent after ⊎ IsCommandSpent after)
HeldTo before after (Busy shard loaded found) = FoundBusy before.trace after shard loaded found
