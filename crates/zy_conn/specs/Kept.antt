-- What a connection's work keeps: the commands of the frames taken are executed in order, each
-- expected call is made once, and each text is written once.
use Rattle.std.specs.Prelude.{◌≡◌, ℕ, ◌<◌, ◌≤◌, ◌^◌, List, [], ◌∷◌, ◌++◌, length, take, ⊤}
use Rattle.mc_calls.specs.declared.call_reply.CallReply.{CallReply}
use Rattle.mc_calls.specs.Kind.{AreAnswers}
use Rattle.mc_calls.specs.Replies.{replies_at}
use Rattle.mc_parse.specs.declared.command.Command.{Command}
use Rattle.mc_parse.specs.declared.shard_call.ShardCall.{ShardCall}
use Rattle.mc_parse.specs.Calls.{Due, calls_of, due, dues_of, tagged}
use Rattle.mc_reply.specs.Answers.{AnswerEach}
use Rattle.zy_frame.specs.Frame.{command_of}
use Rattle.zy_conn.specs.Work.{Start, idle, raw, going, Worked, commands_of_frames, texts_all, texts_taken}

-- ---- the command in progress

-- the command in progress, if there is one
abbrev pub command_begun : Start → List Command
command_begun idle = []
command_begun (raw frame) = command_of frame ∷ []
command_begun (going command calls replies) = command ∷ []

-- the calls that were made of the command in progress
abbrev pub dues_begun : ℕ → ℕ → Start → List Due
dues_begun connection index idle = []
dues_begun connection index (raw frame) = []
dues_begun connection index (going command calls replies) =
    tagged connection index 0 (take (length replies) calls)

-- the replies so far to the command in progress
abbrev pub replies_begun : Start → List CallReply
replies_begun idle = []
replies_begun (raw frame) = []
replies_begun (going command calls replies) = replies

-- the calls are those of the command, and the first of them have got these replies
pub record IsGoingOn (shards : ℕ) (command : Command) (calls : List ShardCall) (replies : List CallReply) : Type 0 where
  pub some : 1 ≤ shards
  pub limit : shards ≤ 256
  pub all : calls ≡ calls_of shards command
  pub few : length replies ≤ length calls
  pub answers : AnswerEach (take (length replies) calls) replies

-- if the command in progress has its calls, they and the replies are its own
abbrev pub IsBegunCommand : ℕ → Start → Type 0
IsBegunCommand shards idle = ⊤
IsBegunCommand shards (raw frame) = ⊤
IsBegunCommand shards (going command calls replies) = IsGoingOn shards command calls replies

-- ---- the work

-- what the work of a connection keeps
pub record KeepsCommands (work : Worked) : Type 0 where
  -- the event ring has 64 slots
  pub slots : work.ring.capacity ≡ 64
  -- the frames taken are those of the finished commands, and then that of the command in progress
  pub done : List Command
  pub frames : commands_of_frames work.taken ≡ done ++ command_begun work.begun
  pub count : length done ≡ work.finished
  -- the calls made are the expected calls of the finished commands, and then the first of the
  -- command in progress
  pub dues : dues_of work.calls ≡ due work.table.slots work.conn done ++ dues_begun work.conn work.finished work.begun
  -- each call got a reply of a kind that it may get
  pub kinds : AreAnswers work.calls
  -- the command in progress has the replies of its own calls
  pub begun : IsBegunCommand work.table.slots work.begun
  pub now : replies_at work.finished work.calls ≡ replies_begun work.begun
  pub later : (index : ℕ) → work.finished < index → replies_at index work.calls ≡ []
  -- the texts ever taken, followed by those that wait, are the texts of the finished commands
  pub texts : texts_taken work ++ work.batch ≡ take work.finished (texts_all work)
  pub shown : work.shown ≤ work.finished
  -- the number of frames taken is at most the number of commands that can be counted
  pub room : length work.taken ≤ 2 ^ 40
