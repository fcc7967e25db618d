use Rattle.std.proofs.Common.{◌≡◌, ◌<◌, ◌≤◌, ℕ, length, vec_capacity, Some}
use Rattle.std.specs.List.{slice_get}
use Rattle.mc_calls.specs.Shard.{empty_state}
use Rattle.mc_shard.specs.Replay.{replaying}
use Rattle.zy_check.proofs.walk.empty_shards.Given as goal

abbrev pub invariant-loop-number : goal.invariant-loop-number
invariant-loop-number l = record {
  count : length l.states.items ≡ l.number;
  room : l.shards ≤ vec_capacity l.states;
  each : (s : ℕ) → s < l.number → slice_get l.states.items s ≡ Some (replaying s l.shards empty_state);
}
