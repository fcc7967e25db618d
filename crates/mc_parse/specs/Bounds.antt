-- Which commands, and which expected calls, are within their bounds.
use Rattle.std.specs.Prelude.{ℕ, ◌<◌, ⊤}
use Rattle.std.specs.List.{AllByRecursion}
use Rattle.mc_calls.specs.Bounds.{IsKey, IsCall}
use Rattle.mc_parse.specs.declared.command.Command.{Command}
use Rattle.mc_parse.specs.declared.shard_call.ShardCall.{ShardCall}
use Rattle.mc_parse.specs.Deed.{Deed, makes_one, gets_each, deed_of}
use Rattle.mc_parse.specs.Saying.{Saying, says_items, says_marks}
use Rattle.mc_parse.specs.Deed.{says_of}
use Rattle.mc_parse.specs.Calls.{Due}

-- the keys and the value of a deed are within their bounds
abbrev pub IsDeed : Deed → Type 0
IsDeed (makes_one call) = IsCall call
IsDeed (gets_each keys) = AllByRecursion IsKey keys
IsDeed deed = ⊤

-- the keys that an answer shows are within their bounds
abbrev pub IsShown : Saying → Type 0
IsShown (says_items keys unique) = AllByRecursion IsKey keys
IsShown (says_marks about key letters) = IsKey key
IsShown says = ⊤

-- the keys and the value of a command are within their bounds
abbrev pub IsCommand : Command → Type 0
IsCommand command = IsDeed (deed_of command) × IsShown (says_of command)

-- the call on a shard is within its bounds
abbrev pub IsShardCall : ShardCall → Type 0
IsShardCall call = IsCall call.call

-- the expected call is within its bounds, and belongs to one of `count` commands
abbrev pub IsDueWithin : ℕ → Due → Type 0
IsDueWithin commands due = IsCall due.call.call × (due.tag.index < commands)
