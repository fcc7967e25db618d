-- The calls of a command, and the expected calls of a connection (docs/PROFILE.md, "Calls").
use Rattle.std.specs.Prelude.{ℕ, ◌+◌, ◌<◌, List}
use Rattle.std.specs.Prelude.{[], ◌∷◌, ◌++◌, map, Option, None, Some}
use Rattle.std.specs.List.{range_with_len}
use Rattle.mc_calls.specs.declared.call.Call.{Call}
use Rattle.mc_calls.specs.declared.call.Call.TheVariants.{Get as GetCall}
use Rattle.mc_calls.specs.declared.entry.Tag.{Tag}
use Rattle.mc_calls.specs.declared.entry.Entry.{Entry}
use Rattle.mc_calls.specs.Call.{key_of}
use Rattle.mc_calls.specs.Key.{shard_of}
use Rattle.mc_parse.specs.declared.shard_call.ShardCall.{ShardCall}
use Rattle.mc_parse.specs.declared.command.Command.{Command}
use Rattle.mc_parse.specs.OnAll.{made_by}
use Rattle.mc_parse.specs.Deed.{Deed, does_nothing, makes_one, gets_each, makes_on_all, deed_of}

-- ---- one command

-- a call on a shard
abbrev pub on_shard : Call → ℕ → ShardCall
on_shard call shard = record { shard = shard; call = call }

-- a call on the shard of its key, among `shards` shards
abbrev pub at_key : ℕ → List ℕ → Call → ShardCall
at_key shards key call = on_shard call (shard_of key shards)

-- the call that gets a key's item
abbrev pub get_at : ℕ → List ℕ → ShardCall
get_at shards key = at_key shards key (GetCall key)

-- the calls that get the items of keys
abbrev pub get_calls : ℕ → List (List ℕ) → List ShardCall
get_calls shards keys = map (get_at shards) keys

-- the same call, once on each shard
abbrev pub calls_on_all : Call → ℕ → List ShardCall
calls_on_all call shards = map (on_shard call) (range_with_len 0 shards)

-- the list of a call, on the shard of its key; no call if it has no key
abbrev pub call_alone : ℕ → Call → Option (List ℕ) → List ShardCall
call_alone shards call None = []
call_alone shards call (Some key) = at_key shards key call ∷ []

-- the calls of a deed on `shards` shards, in their order
abbrev pub calls_by : ℕ → Deed → List ShardCall
calls_by shards does_nothing = []
calls_by shards (makes_one call) = call_alone shards call (key_of call)
calls_by shards (gets_each keys) = get_calls shards keys
calls_by shards (makes_on_all made) = calls_on_all (made_by made) shards

-- the calls of a command on `shards` shards, in their order
abbrev pub calls_of : ℕ → Command → List ShardCall
calls_of shards command = calls_by shards (deed_of command)

-- the call is on one of `shards` shards
abbrev pub IsOnShard : ℕ → ShardCall → Type 0
IsOnShard shards call = call.shard < shards

-- ---- a connection's commands

-- an expected call: its tag, and the call with its shard
pub record Due : Type 0 where
  pub tag : Tag
  pub call : ShardCall

-- the tag of a command's call
abbrev pub tag_of : ℕ → ℕ → ℕ → Tag
tag_of connection index part = record { conn = connection; index = index; part = part }

-- calls of one command, tagged from a part on
abbrev pub tagged : ℕ → ℕ → ℕ → List ShardCall → List Due
tagged connection index part [] = []
tagged connection index part (call ∷ calls) =
    record { tag = tag_of connection index part; call = call }
    ∷ tagged connection index (part + 1) calls

-- the expected calls of the command with this index
abbrev pub due_at : ℕ → ℕ → ℕ → Command → List Due
due_at shards connection index command = tagged connection index 0 (calls_of shards command)

-- the expected calls of commands, the first of which has this index
abbrev pub due_from : ℕ → ℕ → ℕ → List Command → List Due
due_from shards connection index [] = []
due_from shards connection index (command ∷ commands) =
    due_at shards connection index command ++ due_from shards connection (index + 1) commands

-- the expected calls of a connection's commands, in the order of commands and then of parts
abbrev pub due : ℕ → ℕ → List Command → List Due
due shards connection commands = due_from shards connection 0 commands

-- the tag and the call of an entry, as an expected call
abbrev pub due_of : Entry → Due
due_of entry = record { tag = entry.tag; call = on_shard entry.call entry.shard }

-- the tags and calls of entries
abbrev pub dues_of : List Entry → List Due
dues_of entries = map due_of entries

-- an expected call is on one of `shards` shards
abbrev pub IsDueOn : ℕ → Due → Type 0
IsDueOn shards due = IsOnShard shards due.call
