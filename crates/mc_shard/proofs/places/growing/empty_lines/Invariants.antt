use Rattle.std.proofs.Common.{◌≡◌, ◌≤◌, vec_len, vec_capacity}
use Rattle.mc_shard.specs.Places.{AreEmpty}
use Rattle.mc_shard.proofs.places.growing.empty_lines.Given as goal

-- the lines so far have no slots, and there is room for all
abbrev pub invariant-loop : goal.invariant-loop
invariant-loop l = record {
  empty : AreEmpty l.lines.items;
  count : vec_len l.lines ≡ l.counter;
  room : 16 ≤ vec_capacity l.lines;
}
