-- The run that makes all calls of one connection, then all of the next, and so on.
use Rattle.std.specs.Prelude.{ℕ, ◌+◌, List, [], ◌∷◌, flat_map}
use Rattle.std.specs.List.{range_with_len}
use Rattle.mc_calls.specs.declared.entry.Entry.{Entry}
use Rattle.mc_calls.specs.Shard.{State, empty_state, reply_to}
use Rattle.mc_calls.specs.History.{states_after}
use Rattle.mc_parse.specs.declared.command.Command.{Command}
use Rattle.mc_parse.specs.Calls.{Due, due}

-- the entry of an expected call, with the reply that its shard gives in its present state, and this
-- stamp
abbrev pub made_entry : (ℕ → State) → ℕ → Due → Entry
made_entry states stamp due =
    record {
      tag = due.tag;
      shard = due.call.shard;
      call = due.call.call;
      reply = reply_to (states due.call.shard) due.call.call;
      stamp = stamp;
    }

-- the entries of expected calls that are made one after another on these shards, with stamps from
-- this one on
abbrev pub answered : ℕ → (ℕ → State) → ℕ → List Due → List Entry
answered shards states stamp [] = []
answered shards states stamp (due ∷ dues) =
    made_entry states stamp due
    ∷ answered shards (states_after shards states (made_entry states stamp due)) (stamp + 1) dues

-- the entries of expected calls that are made one after another on empty shards; the stamp of each
-- is its place, from 1 on
abbrev pub made : ℕ → List Due → List Entry
made shards dues = answered shards (λ number. empty_state) 1 dues

-- the expected calls of the first `count` connections, those of each after those of the connections
-- before it
abbrev pub all_due : ℕ → ℕ → (ℕ → List Command) → List Due
all_due shards count commands = flat_map (λ conn. due shards conn (commands conn)) (range_with_len 0 count)

-- the entries of the run that makes the calls of connection 0, then those of connection 1, and so on
abbrev pub serial : ℕ → ℕ → (ℕ → List Command) → List Entry
serial shards count commands = made shards (all_due shards count commands)
