-- A `set`, its call, and the command of such a call.
use Rattle.std.specs.Prelude.{◌≡◌, ℕ, Bool, true, false, List}
use Rattle.mc_calls.specs.declared.call.Call.{Call}
use Rattle.mc_calls.specs.declared.call.Call.TheVariants.{Set as SetCall}
use Rattle.mc_parse.specs.declared.command.Command.{Command}
use Rattle.mc_parse.specs.declared.command.Command.TheVariants.{Store}
use Rattle.mc_parse.specs.declared.error_line.ErrorLine.TheVariants.{Unknown}
use Rattle.mc_parse.specs.declared.name.Name.{Name}
use Rattle.mc_parse.specs.declared.name.Name.TheVariants.{Store as StoreName}
use Rattle.mc_parse.specs.declared.shard_call.ShardCall.{ShardCall}
use Rattle.mc_parse.specs.declared.verb.Verb.TheVariants.{Set}
use Rattle.mc_parse.specs.Form.{fault}
use Rattle.mc_parse.specs.Calls.{at_key}

-- a name is `set`
abbrev pub sets : Name → Bool
sets (StoreName Set) = true
sets name = false

-- a command is a `set`
abbrev pub is_set : Command → Bool
is_set (Store Set key flags value quiet) = true
is_set command = false

-- the command of the `set` that makes this call; any other call counts as unknown
abbrev pub set_command : Call → Bool → Command
set_command (SetCall key flags value) quiet = Store Set key flags value quiet
set_command call quiet = fault Unknown

-- a command is a `set`, quiet or not, whose call on so many shards is this one
pub record IsSetBy (shards : ℕ) (command : Command) (next : ShardCall) (quiet : Bool) : Type 0 where
  pub key : List ℕ
  pub flags : ℕ
  pub value : List ℕ
  pub command_is : command ≡ Store Set key flags value quiet
  pub next_is : next ≡ at_key shards key (SetCall key flags value)
