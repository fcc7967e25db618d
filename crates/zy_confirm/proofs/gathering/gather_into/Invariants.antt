use Rattle.std.proofs.Common.{◌≡◌, ◌≤◌, ℕ, length}
use Rattle.std.specs.List.{slice_get}
use Rattle.zy_confirm.specs.Gathering.{GathersTo}
use Rattle.zy_confirm.proofs.gathering.gather_into.Given as goal

abbrev pub invariant-loop-shard : goal.invariant-loop-shard
invariant-loop-shard l = record {
  size : length l.shards.items ≡ l.count;
  total : length l.fn.shards.items ≡ l.count;
  left : (s : ℕ) → l.shard ≤ s → slice_get l.shards.items s ≡ slice_get l.fn.shards.items s;
  gathers : GathersTo l.fn.shards.items l.shard l.all;
}
