-- A command with one call, which is kept instead of it. No public clause cites this module.
use Rattle.std.specs.Prelude.{◌≡◌, ℕ, Bool, List, [], ◌∷◌, Option, None, Some, IfSome, ⊤}
use Rattle.mc_calls.specs.declared.call.Call.{Call}
use Rattle.mc_calls.specs.declared.call.Call.TheVariants.{Get as GetCall}
use Rattle.mc_calls.specs.declared.call_reply.CallReply.{CallReply}
use Rattle.mc_calls.specs.Kind.{MayAnswer}
use Rattle.mc_parse.specs.declared.command.Command.{Command}
use Rattle.mc_parse.specs.declared.command.Command.TheVariants.{Get}
use Rattle.mc_parse.specs.declared.shard_call.ShardCall.{ShardCall}
use Rattle.mc_parse.specs.Calls.{calls_of}
use Rattle.mc_parse.specs.OneSet.{set_command}
use Rattle.zy_check.specs.Begun.{Begun}

-- the retrieval of one key, or the `set`, that makes a call; it asks for CAS values, or is quiet, if the flag says so
abbrev pub single_command : Call → Bool → Command
single_command (GetCall key) flag = Get (key ∷ []) flag
single_command call flag = set_command call flag

-- the reply to the only call, if there is one yet
abbrev pub only_replies : Option CallReply → List CallReply
only_replies None = []
only_replies (Some reply) = reply ∷ []

-- the command with this call, which may be answered
abbrev pub single_begun : ℕ → Call → Bool → Option CallReply → Begun
single_begun shards call flag reply = record {
  command = single_command call flag;
  shards = shards;
  replies = only_replies reply;
}

-- a command has this call and no other, and a reply of a kind that the call may get
pub record IsSingle (shards : ℕ) (next : ShardCall) (flag : Bool) (reply : Option CallReply) : Type 0 where
  pub only : calls_of shards (single_command next.call flag) ≡ next ∷ []
  pub kind : IfSome reply (MayAnswer next.call)

-- ---- the command in progress

-- the command in progress, if there is one: with a single call, or another
abbrev pub in_progress : Option Begun → Option Begun → Option Begun
in_progress None other = other
in_progress (Some single) other = Some single

-- there is no other command beside one with a single call
abbrev pub IsOnly : Option Begun → Option Begun → Type 0
IsOnly None other = ⊤
IsOnly (Some single) other = other ≡ None
