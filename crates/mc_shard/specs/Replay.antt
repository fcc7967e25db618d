-- The view of a shard without a history: its number, the number of shards, and its items and counter.
use Rattle.std.specs.Prelude.{ℕ}
use Rattle.mc_calls.specs.declared.call.Call.{Call}
use Rattle.mc_calls.specs.Shard.{State, state_after}

-- a shard without a history, as its callers see it
pub record Replayed : Type 0 where
  pub number : ℕ
  -- how many shards there are
  pub shards : ℕ
  -- its items and its counter
  pub state : State

-- shard `number` of `shards`, with these items and this counter
abbrev pub replaying : ℕ → ℕ → State → Replayed
replaying number shards state = record { number = number; shards = shards; state = state }

-- the shard after a call
abbrev pub state_replayed : Replayed → Call → Replayed
state_replayed shard call =
    replaying shard.number shard.shards (state_after shard.shards shard.number shard.state call)
