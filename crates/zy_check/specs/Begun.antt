-- A command whose calls are answered one by one. No public clause cites this module.
use Rattle.std.specs.Prelude.{◌≡◌, ℕ, ◌≤◌, List, length, take, Option, IfSome}
use Rattle.std.specs.List.{slice_get}
use Rattle.mc_calls.specs.declared.call.Call.{Call}
use Rattle.mc_calls.specs.declared.call_reply.CallReply.{CallReply}
use Rattle.mc_parse.specs.declared.command.Command.{Command}
use Rattle.mc_parse.specs.declared.shard_call.ShardCall.{ShardCall}
use Rattle.mc_parse.specs.Calls.{calls_of}
use Rattle.mc_reply.specs.Answers.{AnswerEach}

-- a command on `shards` shards, and the replies to its first calls
pub record Begun : Type 0 where
  pub command : Command
  pub shards : ℕ
  pub replies : List CallReply

-- the calls of a command
abbrev pub asked_in : Begun → List ShardCall
asked_in a = calls_of a.shards a.command

-- a call is the one at a place, on whatever shard
abbrev pub IsCallAt : List ShardCall → ℕ → Call → Type 0
IsCallAt calls part call = IfSome (slice_get calls part) (λ (c : ShardCall). call ≡ c.call)

-- a command with replies of the kinds that the first of its calls may get, and the call after these
pub record IsPartlyAnswered (command : Command) (shards : ℕ) (next : Option ShardCall) (replies : List CallReply)
    : Type 0 where
  pub some : 1 ≤ shards
  pub limit : shards ≤ 256
  pub next_is : next ≡ slice_get (calls_of shards command) (length replies)
  pub few : length replies ≤ length (calls_of shards command)
  pub each : AnswerEach (take (length replies) (calls_of shards command)) replies
