use Rattle.std.proofs.Common.{◌≡◌, ◌+◌, ◌*◌, ◌≤◌, length, take, vec_len, vec_capacity}
use Rattle.mc_shard.specs.Places.{doubled}
use Rattle.mc_shard.proofs.places.growing.doubled.Given as goal

-- the lines so far are doubled, and there is room for the others
abbrev pub invariant-loop-at : goal.invariant-loop-at
invariant-loop-at l = record {
  twice : l.twice.items ≡ doubled l.shift (take l.at l.lines.items);
  count : vec_len l.twice ≡ l.at + l.at;
  within : l.at ≤ length l.lines.items;
  room : length l.lines.items * 2 ≤ vec_capacity l.twice;
}
