-- The histories of a store's shards, once it is closed.
use Rattle.std.specs.Prelude.{◌≡◌, ℕ, zero, suc, List, [], ◌∷◌, ◌++◌}
use Rattle.mc_calls.specs.declared.entry.Entry.{Entry}
use Rattle.mc_calls.specs.Order.{of_connection, at_shard, history_of, StampsRise}
use Rattle.mc_calls.specs.History.{AreHistories}
use Rattle.mc_shard.specs.Shard.{Kept, kept}
use Rattle.mc_store.specs.Joined.{Joined, calls_of}

-- the histories of the shards of a store whose passes were all joined
pub record AreClosed (shards : ℕ) (joined : Joined) (histories : List (List Entry)) : Type 0 where
  -- there is one for each shard; its replies are those of a replay, and its stamps rise strictly
  -- from 1 to at most 2^60 - 1
  pub sound : AreHistories shards histories
  -- the calls of a connection on a shard are those that its pass made there, in the pass's order;
  -- the histories have no other calls of the connection
  pub calls : (conn shard : ℕ) → of_connection conn (history_of histories shard) ≡ at_shard shard (calls_of conn joined)
  -- stamps rise along the calls of each pass
  pub rise : (conn : ℕ) → StampsRise 0 (calls_of conn joined)

-- ---- for the proofs alone

-- the history of a shard
abbrev pub history_in : Kept → List Entry
history_in shard = shard.history

-- the first `shards` shards, on which no call was made
abbrev pub empties : ℕ → ℕ → List Kept
empties shards zero = []
empties shards (suc count) = empties shards count ++ kept count shards [] ∷ []
