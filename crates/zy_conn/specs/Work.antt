-- The view of a connection's work: its pass, its events, the command in progress, and the texts of
-- finished commands.
use Rattle.std.specs.Prelude.{ℕ, Bool, true, false, ◌||◌, nat_lt, List, map, take, length, Option, None, Some}
use Rattle.atomic_table.specs.Seated.{TableId}
use Rattle.mc_calls.specs.declared.call_reply.CallReply.{CallReply}
use Rattle.mc_calls.specs.declared.entry.Entry.{Entry}
use Rattle.mc_parse.specs.declared.command.Command.{Command}
use Rattle.mc_parse.specs.declared.shard_call.ShardCall.{ShardCall}
use Rattle.mc_parse.specs.Calls.{calls_of}
use Rattle.mc_reply.specs.Texts.{texts_of}
use Rattle.mc_store.specs.declared.store.view.Trace.{Trace}
use Rattle.mc_store.specs.Pass.{Passed}
use Rattle.zy_calls.specs.Batch.{Batch}
use Rattle.zy_frame.specs.declared.frame_kind.FrameKind.{FrameKind}
use Rattle.zy_frame.specs.Frame.{command_of}
use Rattle.zy_rx.specs.Ring.{RingName}

-- ---- the command in progress

-- nothing is begun; or a frame that was taken, or its command
pub data Started : Type 0 where
  no_frame : Started
  frame_alone : FrameKind → Started
  command_read : Command → Started

-- what is begun, by whether a command is in progress, and the frame that is kept
abbrev pub started : Bool → Command → Option FrameKind → Started
started true command frame = command_read command
started false command (Some frame) = frame_alone frame
started false command None = no_frame

-- a command is in progress
abbrev pub is_going : Started → Bool
is_going no_frame = false
is_going (frame_alone frame) = false
is_going (command_read command) = true

-- a frame was taken whose command was not read
abbrev pub is_alone : Started → Bool
is_alone no_frame = false
is_alone (frame_alone frame) = true
is_alone (command_read command) = false

-- nothing is begun; or a frame that was taken, or its command with its calls and the replies so far
pub data Start : Type 0 where
  idle : Start
  raw : FrameKind → Start
  going : Command → List ShardCall → List CallReply → Start

-- what is begun on so many shards, with the replies so far
abbrev pub start_of : ℕ → Started → List CallReply → Start
start_of shards no_frame replies = idle
start_of shards (frame_alone frame) replies = raw frame
start_of shards (command_read command) replies = going command (calls_of shards command) replies

-- a command is in progress
abbrev pub is_begun : Start → Bool
is_begun idle = false
is_begun (raw frame) = true
is_begun (going command calls replies) = true

-- ---- the work

-- a connection with its store and event ring, the frames taken and those known, the command in
-- progress, the number of finished commands and the number of those whose texts were taken, the
-- texts that wait, and the calls of its pass
pub record Worked : Type 0 where
  pub conn : ℕ
  pub table : TableId
  pub ring : RingName
  pub taken : List FrameKind
  pub known : List FrameKind
  pub begun : Start
  pub finished : ℕ
  pub shown : ℕ
  pub batch : List (List ℕ)
  pub calls : List Entry
  pub trace : Trace

-- the work of this pass over this event ring
abbrev pub work_of_pass : Passed → RingName → List FrameKind → List FrameKind → Start → ℕ → ℕ → List (List ℕ) → Worked
work_of_pass pass ring taken known begun finished shown batch = record {
  conn = pass.conn;
  table = pass.table;
  ring = ring;
  taken = taken;
  known = known;
  begun = begun;
  finished = finished;
  shown = shown;
  batch = batch;
  calls = pass.calls;
  trace = pass.trace;
}

-- a command is in progress, or a frame is known
abbrev pub has_event : Worked → Bool
has_event work = is_begun work.begun || nat_lt 0 (length work.known)

-- ---- texts

-- the commands of frames
abbrev pub commands_of_frames : List FrameKind → List Command
commands_of_frames frames = map command_of frames

-- the texts of all commands whose frames were taken, each with the replies of its own calls
abbrev pub texts_all : Worked → List (List ℕ)
texts_all work = texts_of (commands_of_frames work.taken) work.calls

-- the texts that were ever taken
abbrev pub texts_taken : Worked → List (List ℕ)
texts_taken work = take work.shown (texts_all work)

-- the texts that wait, with the number of finished commands
abbrev pub batch_waiting : Worked → Batch
batch_waiting work = record { texts = work.batch; finished = work.finished }

-- ---- the mark

-- the connection, its event ring, and the texts that were ever taken
abbrev pub Mark : Type 0
Mark = ℕ × (RingName × List (List ℕ))

-- the mark of a connection's work; only the taking of a batch changes it
abbrev pub mark_of : Worked → Mark
mark_of work = (work.conn, (work.ring, texts_taken work))
