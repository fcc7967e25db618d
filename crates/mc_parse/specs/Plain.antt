-- Which keys a command calls, and which commands are plain: their calls have keys, and they neither
-- show nor compare a unique.
use Rattle.std.specs.Prelude.{◌≡◌, ℕ, ◌<◌, true, false, List, [], ◌∷◌, flat_map, Option, None, Some, ⊤}
use Rattle.std.specs.List.{AllByRecursion, Contains}
use Rattle.mc_calls.specs.Call.{key_of}
use Rattle.mc_calls.specs.Key.{shard_of}
use Rattle.mc_calls.specs.Told.{IsSteady}
use Rattle.mc_parse.specs.declared.command.Command.{Command}
use Rattle.mc_meta.specs.Flags.{is_among}
use Rattle.mc_parse.specs.declared.shard_call.ShardCall.{ShardCall}
use Rattle.mc_parse.specs.MetaAsk.{MetaAsk, meta_gets, meta_stores, meta_exchanges, meta_deletes}
use Rattle.mc_parse.specs.Form.{ask_keys, Ask, exchanges, gets, flushes}
use Rattle.mc_parse.specs.Form.{tells_counts, metas, Form, faulty, asks}
use Rattle.mc_parse.specs.Deed.{Deed, does_nothing, makes_one, gets_each, makes_on_all, deed_of}
use Rattle.mc_parse.specs.Saying.{Saying, says_items, says_marks, a_found}
use Rattle.mc_parse.specs.Deed.{says_of}
use Rattle.mc_parse.specs.Calls.{Due, on_shard}

-- ---- commands

-- the key that a call has, as a list
abbrev pub key_list : Option (List ℕ) → List (List ℕ)
key_list None = []
key_list (Some key) = key ∷ []

-- the keys of a deed
abbrev pub deed_keys : Deed → List (List ℕ)
deed_keys does_nothing = []
deed_keys (makes_one call) = key_list (key_of call)
deed_keys (gets_each keys) = keys
deed_keys (makes_on_all made) = []

-- the keys of a command's calls
abbrev pub keys_of : Command → List (List ℕ)
keys_of command = deed_keys (deed_of command)

-- the keys of the calls of some commands
abbrev pub all_keys_of : List Command → List (List ℕ)
all_keys_of commands = flat_map keys_of commands

-- the letter of the flag that asks for a unique
abbrev pub unique_letter : ℕ
unique_letter = 99

-- the calls of a deed have keys, compare no unique, and depend on no other keys
abbrev pub IsSteadyDeed : Deed → Type 0
IsSteadyDeed (makes_one call) = IsSteady call
IsSteadyDeed (makes_on_all made) = ⊥
IsSteadyDeed deed = ⊤

-- an answer shows no unique
abbrev pub HidesUniques : Saying → Type 0
HidesUniques (says_items keys true) = ⊥
HidesUniques (says_marks a_found key letters) = is_among letters unique_letter ≡ false
HidesUniques says = ⊤

-- the command is no `gets`, no `cas`, no `flush_all`, no `stats`, no `mg` with `c` and no `ms` with `C`
abbrev pub IsPlain : Command → Type 0
IsPlain command = IsSteadyDeed (deed_of command) × HidesUniques (says_of command)

-- a command is plain, and the key of each of its calls has this property
pub record IsOwnCommand (IsOwn : List ℕ → Type 0) (command : Command) : Type 0 where
  pub plain : IsPlain command
  pub keys : AllByRecursion IsOwn (keys_of command)

-- ---- what lines say

-- a meta request is plain, and its key has this property
abbrev pub IsOwnMeta : (List ℕ → Type 0) → MetaAsk → Type 0
IsOwnMeta IsOwn (meta_gets key flags) = (is_among flags unique_letter ≡ false) × IsOwn key
IsOwnMeta IsOwn (meta_stores verb key flags bytes marks) = IsOwn key
IsOwnMeta IsOwn (meta_exchanges key flags bytes unique marks) = ⊥
IsOwnMeta IsOwn (meta_deletes key flags) = IsOwn key
IsOwnMeta IsOwn ask = ⊤

-- each of some keys has this property
abbrev pub AreOwn : (List ℕ → Type 0) → List (List ℕ) → Type 0
AreOwn IsOwn [] = ⊤
AreOwn IsOwn (key ∷ []) = IsOwn key
AreOwn IsOwn keys = AllByRecursion IsOwn keys

-- a request is plain, and each of its keys has this property
abbrev pub IsOwnAsk : (List ℕ → Type 0) → Ask → Type 0
IsOwnAsk IsOwn (exchanges key flags bytes unique) = ⊥
IsOwnAsk IsOwn (gets keys unique) = (unique ≡ false) × AllByRecursion IsOwn keys
IsOwnAsk IsOwn flushes = ⊥
IsOwnAsk IsOwn tells_counts = ⊥
IsOwnAsk IsOwn (metas ask) = IsOwnMeta IsOwn ask
IsOwnAsk IsOwn ask = AreOwn IsOwn (ask_keys ask)

-- what a line says is plain, and each of its keys has this property
abbrev pub IsOwnForm : (List ℕ → Type 0) → Form → Type 0
IsOwnForm IsOwn (faulty line) = ⊤
IsOwnForm IsOwn (asks ask quiet) = IsOwnAsk IsOwn ask

-- ---- calls

-- the call is steady, and on the shard of its key, which is one of these
pub record IsKeyed (shards : ℕ) (IsOwn : List ℕ → Type 0) (call : ShardCall) : Type 0 where
  pub key : List ℕ
  pub named : key_of call.call ≡ Some key
  pub own : IsOwn key
  pub place : call.shard ≡ shard_of key shards
  pub steady : IsSteady call.call

-- the expected call belongs to one of `count` connections, and its key is one of that connection's
pub record IsDueOwn (shards count : ℕ) (keys : ℕ → List (List ℕ)) (due : Due) : Type 0 where
  pub within : due.tag.conn < count
  pub keyed : IsKeyed shards (Contains (keys due.tag.conn)) due.call

-- an expected call without its shard
abbrev pub bare : Due → Due
bare due = record { tag = due.tag; call = on_shard due.call.call 0 }
