-- The entries of an explanation: calls with what was said to them, and when.
use Rattle.std.specs.Prelude.{◌≡◌, ℕ, ◌+◌, ◌==◌, ◌&&◌, Bool, List, [], ◌∷◌, ◌++◌, map, filter, ⊤}
use Rattle.mc_allows.specs.declared.call_name.CallName.{CallName}
use Rattle.mc_allows.specs.declared.said.Said.{Said}
use Rattle.mc_allows.specs.Steps.{KeyStep, made, lost, is_about}
use Rattle.mc_answers.specs.Said.{said_calls}
use Rattle.mc_calls.specs.Key.{shard_of}
use Rattle.mc_parse.specs.declared.command.Command.{Command}
use Rattle.mc_parse.specs.declared.shard_call.ShardCall.{ShardCall}

-- ---- calls

-- a call on a shard, with its name
pub record NamedCall : Type 0 where
  pub name : CallName
  pub call : ShardCall

-- the name of a call
abbrev pub name_at : ℕ → ℕ → ℕ → ℕ → CallName
name_at conn session index part = record { index = index; session = session; conn = conn; part = part }

-- the calls of the command with this index, named from a part on
abbrev pub named_parts : ℕ → ℕ → ℕ → ℕ → List ShardCall → List NamedCall
named_parts conn session index part [] = []
named_parts conn session index part (call ∷ calls) =
    record { name = name_at conn session index part; call = call } ∷ named_parts conn session index (part + 1) calls

-- the calls of commands of a session, the first of which has this index
abbrev pub named_from : ℕ → ℕ → ℕ → ℕ → List Command → List NamedCall
named_from shards conn session index [] = []
named_from shards conn session index (command ∷ commands) =
    named_parts conn session index 0 (said_calls shards command)
    ++ named_from shards conn session (index + 1) commands

-- ---- entries

-- a call, what was said to it, and the moment at which it was made
pub record MadeCall : Type 0 where
  pub named : NamedCall
  pub said : Said
  pub moment : ℕ

-- the name is one of this session
abbrev pub is_of_session : ℕ → ℕ → CallName → Bool
is_of_session conn session name = name.conn == conn && name.session == session

-- the entries of a session, in the list's order
abbrev pub of_session : ℕ → ℕ → List MadeCall → List MadeCall
of_session conn session entries = filter (λ (e : MadeCall). is_of_session conn session e.named.name) entries

-- what was said to the calls of the command with this index, in the list's order
abbrev pub said_to : ℕ → ℕ → ℕ → List MadeCall → List Said
said_to conn session index entries = map (λ (e : MadeCall). e.said)
    (filter (λ (e : MadeCall). e.named.name.index == index) (of_session conn session entries))

-- ---- a key

-- a call is about a key: it is on the key, or it is a flush of the key's shard
abbrev pub is_at_key : ℕ → List ℕ → ShardCall → Bool
is_at_key shards key call = call.shard == shard_of key shards && is_about key call.call

-- the entries about a key, in the list's order
abbrev pub placed_at : ℕ → List ℕ → List MadeCall → List MadeCall
placed_at shards key entries = filter (λ (e : MadeCall). is_at_key shards key e.named.call) entries

-- the steps are the calls of these entries, with what was said to them, and losses before, between and after them
abbrev pub AreStepsOf : List MadeCall → List KeyStep → Type 0
AreStepsOf entries (lost ∷ steps) = AreStepsOf entries steps
AreStepsOf (e ∷ entries) (made name call said after ∷ steps) =
    (name ≡ e.named.name) × (call ≡ e.named.call.call) × (said ≡ e.said) × AreStepsOf entries steps
AreStepsOf [] [] = ⊤
AreStepsOf entries steps = ⊥
