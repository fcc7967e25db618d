-- Which replies a command may get.
use Rattle.std.specs.Prelude.{ℕ, ◌≤◌, List, [], ◌∷◌, ⊤}
use Rattle.mc_calls.specs.declared.call_reply.CallReply.{CallReply}
use Rattle.mc_calls.specs.Kind.{MayAnswer}
use Rattle.mc_parse.specs.declared.command.Command.{Command}
use Rattle.mc_parse.specs.declared.shard_call.ShardCall.{ShardCall}
use Rattle.mc_parse.specs.Calls.{calls_of}

-- one reply for each call, of a kind that the call may get
abbrev pub AnswerEach : List ShardCall → List CallReply → Type 0
AnswerEach [] [] = ⊤
AnswerEach (call ∷ calls) (reply ∷ replies) =
    MayAnswer call.call reply × AnswerEach calls replies
AnswerEach calls replies = ⊥

-- for some number of shards from 1 to 256 there is one reply for each call of the command
pub record AnswerCommand (command : Command) (replies : List CallReply) : Type 0 where
  pub shards : ℕ
  pub some : 1 ≤ shards
  pub limit : shards ≤ 256
  pub each : AnswerEach (calls_of shards command) replies
