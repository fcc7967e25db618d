use Rattle.std.proofs.Common.{◌≤◌, length}
use Rattle.mc_shard.specs.Places.{keys_in, NoneBefore}
use Rattle.mc_shard.proofs.places.finding.index_of.Given as goal

abbrev pub invariant-loop-at : goal.invariant-loop-at
invariant-loop-at g l = record {
  none : NoneBefore (keys_in (g.S.Stored.stored l.stored) l.line.slots) l.key l.at;
  within : l.at ≤ length l.line.slots;
}
