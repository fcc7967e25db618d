-- What a command does on the shards, and what answers it (docs/PROFILE.md, "Calls" and "Answers"). Its calls, its keys,
-- their bounds and their number depend only on the first; its text, the size of that and what it shows only on the
-- second.
use Rattle.std.specs.Prelude.{ℕ, Bool, true, false, List, ⊤}
use Rattle.mc_calls.specs.declared.call.Call.{Call}
use Rattle.mc_calls.specs.declared.call.Call.TheVariants.{Get as GetCall, Set as SetCall, Add as AddCall}
use Rattle.mc_calls.specs.declared.call.Call.TheVariants.{Replace as ReplaceCall, Append as AppendCall}
use Rattle.mc_calls.specs.declared.call.Call.TheVariants.{Prepend as PrependCall, Cas as CasCall, Incr, Decr}
use Rattle.mc_calls.specs.declared.call.Call.TheVariants.{Delete as DeleteCall}
use Rattle.mc_parse.specs.declared.verb.Verb.{Verb}
use Rattle.mc_parse.specs.declared.verb.Verb.TheVariants.{Set, Add, Replace, Append, Prepend}
use Rattle.mc_parse.specs.declared.on_all.OnAll.{OnAll}
use Rattle.mc_parse.specs.declared.on_all.OnAll.TheVariants as OnEach
use Rattle.mc_parse.specs.declared.command.Command.{Command}
use Rattle.mc_parse.specs.declared.command.Command.TheVariants.{Store, Cas, Get, Delete, Count, Version}
use Rattle.mc_parse.specs.declared.command.Command.TheVariants.{Verbosity, Flush, Fault, Meta, Stats}
use Rattle.mc_parse.specs.Saying.{Saying, says_reply, says_items, says_counts, says_line, says_marks}
use Rattle.mc_parse.specs.Saying.{the_version, is_done, does_noop, has_fault, a_found, a_stored, a_removed}
use Rattle.mc_parse.specs.declared.meta.Meta.{Meta as MetaCommand}
use Rattle.mc_parse.specs.declared.meta.Meta.TheVariants as Metas

-- ---- calls

-- the call that stores as a verb says
abbrev pub stored_by : Verb → List ℕ → ℕ → List ℕ → Call
stored_by Set key flags value = SetCall key flags value
stored_by Add key flags value = AddCall key flags value
stored_by Replace key flags value = ReplaceCall key flags value
stored_by Append key flags value = AppendCall key value
stored_by Prepend key flags value = PrependCall key value

-- the call that counts up or down
abbrev pub counted_by : Bool → List ℕ → ℕ → Call
counted_by true key amount = Incr key amount
counted_by false key amount = Decr key amount

-- ---- deeds

-- what a command does on the shards
pub data Deed : Type 0 where
  -- nothing
  does_nothing : Deed
  -- this call, on the shard of its key
  makes_one : Call → Deed
  -- a get of each key
  gets_each : List (List ℕ) → Deed
  -- a call without a key, once on each shard
  makes_on_all : OnAll → Deed

-- ---- the table

-- what a command does, and what answers it
pub record CommandRow : Type 0 where
  pub deed : Deed
  pub says : Saying

-- the row with this deed and this answer
abbrev pub deed_row : Deed → Saying → CommandRow
deed_row deed says = record { deed = deed; says = says }

-- the row of each meta command
abbrev pub meta_row : MetaCommand → CommandRow
meta_row Metas.Noop = deed_row does_nothing (says_line does_noop false)
meta_row (Metas.Get key flags) = deed_row (makes_one (GetCall key)) (says_marks a_found key flags)
meta_row (Metas.Set key call marks) = deed_row (makes_one call) (says_marks a_stored key marks)
meta_row (Metas.Delete key flags) = deed_row (makes_one (DeleteCall key)) (says_marks a_removed key flags)

-- the row of each command
abbrev pub command_row : Command → CommandRow
command_row (Store verb key flags value quiet) =
    deed_row (makes_one (stored_by verb key flags value)) (says_reply quiet)
command_row (Cas key flags unique value quiet) =
    deed_row (makes_one (CasCall flags key unique value)) (says_reply quiet)
command_row (Get keys unique) = deed_row (gets_each keys) (says_items keys unique)
command_row (Delete key quiet) = deed_row (makes_one (DeleteCall key)) (says_reply quiet)
command_row (Count key up amount quiet) = deed_row (makes_one (counted_by up key amount)) (says_reply quiet)
command_row Version = deed_row does_nothing (says_line the_version false)
command_row Stats = deed_row (makes_on_all OnEach.Tally) says_counts
command_row (Verbosity quiet) = deed_row does_nothing (says_line is_done quiet)
command_row (Flush quiet) = deed_row (makes_on_all OnEach.Flush) (says_line is_done quiet)
command_row (Fault line quiet) = deed_row does_nothing (says_line (has_fault line) quiet)
command_row (Meta meta) = meta_row meta

-- what a meta command does
abbrev pub meta_deed : MetaCommand → Deed
meta_deed meta = (meta_row meta).deed

-- what answers a meta command
abbrev pub meta_says : MetaCommand → Saying
meta_says meta = (meta_row meta).says

-- what a command does
abbrev pub deed_of : Command → Deed
deed_of command = (command_row command).deed

-- what answers a command
abbrev pub says_of : Command → Saying
says_of command = (command_row command).says

-- the answer is not sent
abbrev pub is_unsaid : Saying → Bool
is_unsaid (says_reply quiet) = quiet
is_unsaid (says_line line quiet) = quiet
is_unsaid says = false

-- a deed is at most one call
abbrev pub IsOnce : Deed → Type 0
IsOnce (gets_each keys) = ⊥
IsOnce (makes_on_all made) = ⊥
IsOnce deed = ⊤
