-- How a command begins, and is executed at once. No public clause cites this module.
use Rattle.std.specs.Prelude.{◌≡◌, ◌⊎◌, ℕ, ◌+◌, List, [], ◌∷◌, ◌++◌, Result, Ok, Err}
use Rattle.mc_calls.specs.declared.call_reply.CallReply.{CallReply}
use Rattle.mc_calls.specs.declared.entry.Entry.{Entry}
use Rattle.mc_parse.specs.declared.command.Command.{Command}
use Rattle.mc_parse.specs.declared.shard_call.ShardCall.{ShardCall}
use Rattle.mc_parse.specs.Calls.{calls_of}
use Rattle.mc_reply.specs.Text.{text}
use Rattle.mc_store.specs.Pass.{Passed}
use Rattle.zy_base.specs.declared.outside.NoMemory.{NoMemory}
use Rattle.zy_calls.specs.Batch.{Batch, with_text, with_finished}
use Rattle.zy_frame.specs.declared.frame_kind.FrameKind.{FrameKind}
use Rattle.zy_frame.specs.Frame.{command_of}
use Rattle.zy_conn.specs.declared.work.direct.Begins.{Begins}
use Rattle.zy_conn.specs.declared.work.direct.Begins.TheVariants.{Going, Finished, Stopped}
use Rattle.zy_conn.specs.Work.{Started, no_frame, frame_alone, command_read, Worked, idle}
use Rattle.zy_conn.specs.Step.{IsGoing, IsMadeAsPart, CallStopsBy, StopsBy}

-- ---- the only call of a command

-- this call was made, as the only one of a command, and got the only reply
pub record IsMadeAlone (index : ℕ) (asked : ShardCall) (before after : Passed) (got : List CallReply) : Type 0 where
  pub entry : Entry
  pub part : IsMadeAsPart before.conn index 0 asked entry
  pub entered : after.calls ≡ before.calls ++ entry ∷ []
  pub replied : got ≡ entry.reply ∷ []

-- no call was made
pub record IsUnmade (before after : Passed) (replies' : List CallReply) : Type 0 where
  pub same : after.calls ≡ before.calls
  pub none : replies' ≡ []

-- the batch with the text of a command, which is finished
abbrev pub finished_with : Batch → Command → List CallReply → Batch
finished_with batch command replies = with_finished (with_text batch (text command replies)) (batch.finished + 1)

-- a command with this only call, with the pass and the batch before and after it
module _ (command : Command) (asked : ShardCall) (before : Passed) (batch : Batch) (after : Passed)
    (replies' : List CallReply) (batch' : Batch) where
  -- the result of making its call, and of appending its text
  abbrev pub TriesTo : Result Begins NoMemory → Type 0
  TriesTo (Ok Finished) = (got : List CallReply) × IsMadeAlone batch.finished asked before after got
      × (batch' ≡ finished_with batch command got)
  TriesTo (Ok Going) = ⊥
  TriesTo (Ok (Stopped end)) =
      CallStopsBy asked before after end × IsUnmade before after replies' × (batch' ≡ batch)
  TriesTo (Err e) =
      (IsMadeAlone batch.finished asked before after replies' ⊎ IsUnmade before after replies') × (batch' ≡ batch)

-- ---- what is begun

-- nothing is begun if the command was finished; otherwise the command is
abbrev pub IsBegunBy : Result Begins NoMemory → Command → Started → Type 0
IsBegunBy (Ok Finished) command begun' = begun' ≡ no_frame
IsBegunBy result command begun' = begun' ≡ command_read command

-- the result of reading the command of a frame
abbrev pub ReadsTo : FrameKind → Started → Result Begins NoMemory → Type 0
ReadsTo frame begun' (Ok Going) = begun' ≡ command_read (command_of frame)
ReadsTo frame begun' (Ok Finished) = ⊥
ReadsTo frame begun' (Ok (Stopped end)) = ⊥
ReadsTo frame begun' (Err e) = begun' ≡ frame_alone frame

-- ---- a frame

-- a frame on so many shards, with the pass and the batch before it, and all after it
module _ (shards : ℕ) (frame : FrameKind) (before : Passed) (batch : Batch) (after : Passed) (begun' : Started)
    (replies' : List CallReply) (batch' : Batch) where
  -- its command was read, and no call was made
  pub record IsRead (result : Result Begins NoMemory) : Type 0 where
    pub reads : ReadsTo frame begun' result
    pub unmade : IsUnmade before after replies'
    pub batch_is : batch' ≡ batch

  -- its command has one call, which was tried
  pub record IsTried (result : Result Begins NoMemory) : Type 0 where
    pub asked : ShardCall
    pub only : calls_of shards (command_of frame) ≡ asked ∷ []
    pub begun_is : IsBegunBy result (command_of frame) begun'
    pub tries : TriesTo (command_of frame) asked before batch after replies' batch' result

  -- the result of beginning its command
  abbrev pub StartsTo : Result Begins NoMemory → Type 0
  StartsTo result = IsRead result ⊎ IsTried result

-- ---- the work

-- the result of beginning the next command
abbrev pub BeginsTo : Worked → Worked → Begins → Type 0
BeginsTo before after Going = IsGoing after.begun × (after.finished ≡ before.finished)
BeginsTo before after Finished = (after.begun ≡ idle) × (after.finished ≡ before.finished + 1)
BeginsTo before after (Stopped end) = StopsBy before after end × (after.finished ≡ before.finished)
