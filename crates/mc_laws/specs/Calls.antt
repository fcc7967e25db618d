-- What laws say of the calls of a command, and of the expected calls of a connection.
use Rattle.std.specs.Prelude.{◌≡◌, ℕ, length, List, [], ◌∷◌, ◌++◌, map, IfSome}
use Rattle.mc_calls.specs.declared.call.Call.{Call}
use Rattle.mc_calls.specs.Call.{key_of}
use Rattle.mc_calls.specs.Key.{shard_of}
use Rattle.mc_parse.specs.declared.shard_call.ShardCall.{ShardCall}
use Rattle.mc_parse.specs.declared.command.Command.{Command}
use Rattle.mc_parse.specs.Calls.{due, due_at, due_from}

-- the calls without their shards
abbrev pub asked_by : List ShardCall → List Call
asked_by calls = map (λ (call : ShardCall). call.call) calls

-- a call is on the shard of its key, if it has one
abbrev pub IsAtKey : ℕ → ShardCall → Type 0
IsAtKey shards call = IfSome (key_of call.call) (λ key. call.shard ≡ shard_of key shards)

-- the calls of more commands are expected after those of the commands before them
abbrev pub FollowAll : ℕ → ℕ → List Command → List Command → Type 0
FollowAll shards connection front commands =
    due shards connection (front ++ commands)
    ≡ due shards connection front ++ due_from shards connection (length front) commands

-- the calls of one more command are expected after those of the commands before it
abbrev pub FollowsAll : ℕ → ℕ → List Command → Command → Type 0
FollowsAll shards connection commands command =
    due shards connection (commands ++ command ∷ [])
    ≡ due shards connection commands ++ due_at shards connection (length commands) command
