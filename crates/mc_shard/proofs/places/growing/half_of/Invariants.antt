use Rattle.std.proofs.Common.{◌≡◌, ◌≤◌, length, take}
use Rattle.mc_shard.specs.Places.{sifted}
use Rattle.mc_shard.proofs.places.growing.half_of.Given as goal

-- the slots so far are sifted
abbrev pub invariant-loop-at : goal.invariant-loop-at
invariant-loop-at l = record {
  half : l.half.slots ≡ sifted l.shift l.bit (take l.at l.line.slots);
  mark : l.half.marked ≡ l.line.marked;
  few : length l.half.slots ≤ l.at;
  within : l.at ≤ length l.line.slots;
}
