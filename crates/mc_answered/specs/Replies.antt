-- Which lines may answer a call of some kind.
use Rattle.std.specs.Prelude.{◌≡◌, ◌⊎◌, ℕ, Bool, true, false, List, Option, None, Some}
use Rattle.mc_calls.specs.declared.call_kind.CallKind.{CallKind}
use Rattle.mc_calls.specs.declared.call_kind.CallKind.TheVariants.{Get, Set, Add, Replace, Append, Prepend}
use Rattle.mc_calls.specs.declared.call_kind.CallKind.TheVariants.{Cas, Incr, Decr, Delete, Flush, Tally}
use Rattle.mc_calls.specs.declared.call_reply.CallReply.{CallReply}
use Rattle.mc_calls.specs.Bounds.{FitsReply}
use Rattle.mc_calls.specs.Shard.{may_say}
use Rattle.mc_calls.specs.Table.{row_of}
use Rattle.mc_parse.specs.declared.command.Command.{Command}
use Rattle.mc_parse.specs.declared.command.Command.TheVariants.{Store, Count}
use Rattle.mc_parse.specs.declared.command.Command.TheVariants as Commands
use Rattle.mc_parse.specs.declared.verb.Verb.{Verb}
use Rattle.mc_parse.specs.declared.verb.Verb.TheVariants as Verbs
use Rattle.mc_reply.specs.Text.{reply_line}
use Rattle.mc_answers.specs.Kinds.{IsServerError}

-- the kind of the call that stores as a verb says
abbrev pub stored_kind : Verb → CallKind
stored_kind Verbs.Set = Set
stored_kind Verbs.Add = Add
stored_kind Verbs.Replace = Replace
stored_kind Verbs.Append = Append
stored_kind Verbs.Prepend = Prepend

-- the kind of the call that counts up or down
abbrev pub counted_kind : Bool → CallKind
counted_kind true = Incr
counted_kind false = Decr

-- the kind of the call of a command that is answered by the line of its one reply
abbrev pub reply_kind : Command → Option CallKind
reply_kind (Store verb key flags value quiet) = Some (stored_kind verb)
reply_kind (Commands.Cas key flags unique value quiet) = Some Cas
reply_kind (Commands.Delete key quiet) = Some Delete
reply_kind (Count key up amount quiet) = Some (counted_kind up)
reply_kind command = None

-- a call of this kind may fail
abbrev pub kind_may_fail : CallKind → Bool
kind_may_fail Get = false
kind_may_fail Delete = false
kind_may_fail Flush = false
kind_may_fail Tally = false
kind_may_fail kind = true

-- the line shows a reply that a call of this kind may get
pub record IsReplyTo (kind : CallKind) (line : List ℕ) : Type 0 where
  pub reply : CallReply
  pub may : may_say (row_of kind).acts reply ≡ true
  pub fits : FitsReply reply
  pub is : line ≡ reply_line reply

-- the line shows a reply that a call of this kind may get, or that it failed
abbrev pub IsSaidLine : CallKind → List ℕ → Type 0
IsSaidLine kind line = IsReplyTo kind line ⊎ ((kind_may_fail kind ≡ true) × IsServerError line)
