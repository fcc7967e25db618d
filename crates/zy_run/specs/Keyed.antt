-- Entries whose key is one of their connection. No public clause cites this module.
use Rattle.std.specs.Prelude.{◌≡◌, ℕ, List, [], ◌∷◌}
use Rattle.std.specs.List.{Contains}
use Rattle.mc_calls.specs.declared.entry.Entry.{Entry}
use Rattle.mc_calls.specs.Key.{shard_of}
use Rattle.mc_calls.specs.Shard.{State, reply_to, state_after}
use Rattle.mc_calls.specs.Told.{seen_at, told}
use Rattle.mc_parse.specs.Calls.{Due, due_of}
use Rattle.mc_parse.specs.Plain.{IsDueOwn}

-- an entry belongs to one of `count` connections, and its key is one of that connection's
abbrev pub IsEntryOwn : ℕ → ℕ → (ℕ → List (List ℕ)) → Entry → Type 0
IsEntryOwn shards count keys e = IsDueOwn shards count keys (due_of e)

-- at each of these keys, a store and a single shard have the same, apart from CAS values
abbrev pub AgreeAtKeys : ℕ → List (List ℕ) → (ℕ → State) → State → Type 0
AgreeAtKeys shards keys states single =
    (key : List ℕ) → Contains keys key → seen_at key (states (shard_of key shards)) ≡ seen_at key single

-- the entries of expected calls that are made one after another on one shard, without shards,
-- CAS values and stamps
abbrev pub told_by : State → List Due → List Entry
told_by single [] = []
told_by single (due ∷ dues) =
    record { tag = due.tag; shard = 0; call = due.call.call; reply = told (reply_to single due.call.call); stamp = 0 }
    ∷ told_by (state_after 1 0 single due.call.call) dues
