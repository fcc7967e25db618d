-- Histories of calls, of one shard and of all: each reply is the one that a replay of the calls
-- gives.
use Rattle.std.specs.Prelude.{◌≡◌, ℕ, ◌<◌, ◌==◌, if◌then◌else◌, List, [], ◌∷◌, length, ⊤}
use Rattle.mc_calls.specs.declared.entry.Entry.{Entry}
use Rattle.mc_calls.specs.Shard.{State, empty_state, reply_to, state_after}
use Rattle.std.specs.List.{AllByRecursion}
use Rattle.mc_calls.specs.Bounds.{FitsEntry}
use Rattle.mc_calls.specs.Order.{AreAt, StampsRise, AreStampsBelow, history_of}
use Rattle.zy_base.specs.Limits.{stamp_limit}

-- ---- one shard

-- each entry's reply is that to its call, on the shard as the entries before it left it
abbrev pub IsReplay : ℕ → ℕ → State → List Entry → Type 0
IsReplay shards number state [] = ⊤
IsReplay shards number state (e ∷ es) =
    (e.reply ≡ reply_to state e.call) × IsReplay shards number (state_after shards number state e.call) es

-- the shard after the calls of these entries
abbrev pub replayed : ℕ → ℕ → State → List Entry → State
replayed shards number state [] = state
replayed shards number state (e ∷ es) = replayed shards number (state_after shards number state e.call) es

-- the history is one of shard `number` of `shards`
pub record IsHistory (shards number : ℕ) (history : List Entry) : Type 0 where
  -- each reply is that of the replay
  pub replay : IsReplay shards number empty_state history
  -- each entry names the shard
  pub place : AreAt number history
  -- the stamps rise strictly, from 1 or more
  pub stamps : StampsRise 0 history
  -- flags, numbers and parts fit their bytes
  pub fits : AllByRecursion FitsEntry history

-- ---- all shards

-- the shards after a call on one of them
abbrev pub states_after : ℕ → (ℕ → State) → Entry → ℕ → State
states_after shards states e number =
    if number == e.shard then state_after shards e.shard (states e.shard) e.call else states number

-- each entry's shard is one of `shards` shards, and its reply is the one that this shard gives
-- after the entries before it
abbrev pub IsLegalFrom : ℕ → (ℕ → State) → List Entry → Type 0
IsLegalFrom shards states [] = ⊤
IsLegalFrom shards states (e ∷ es) =
    (e.shard < shards) × (e.reply ≡ reply_to (states e.shard) e.call)
    × IsLegalFrom shards (states_after shards states e) es

-- the entries are those of one run of calls on `shards` shards, which are empty at first
abbrev pub IsLegal : ℕ → List Entry → Type 0
IsLegal shards es = IsLegalFrom shards (λ number. empty_state) es

-- the histories are those of `shards` shards
pub record AreHistories (shards : ℕ) (histories : List (List Entry)) : Type 0 where
  -- there is one for each shard
  pub count : length histories ≡ shards
  -- and it is a history of that shard
  pub each : (shard : ℕ) → IsHistory shards shard (history_of histories shard)
  -- its stamps are at most 2^60 - 1
  pub limit : (shard : ℕ) → AreStampsBelow stamp_limit (history_of histories shard)
