use Rattle.std.proofs.Common.{◌≡◌, length, ◌-◌, ◌≤◌}
use Rattle.zy_journal.proofs.WalkLemmas.{AreHeadsBelow}
use Rattle.zy_journal.proofs.heads.heads_of.Given as goal

-- the heads of the lists so far
abbrev pub invariant-loop-shard : goal.invariant-loop-shard
invariant-loop-shard l = record {
  heads : AreHeadsBelow l.histories l.shard l.heads;
  size : length l.heads ≡ 256;
  within : l.shard ≤ length l.histories;
}

abbrev pub decreases-loop-shard : goal.decreases-loop-shard
decreases-loop-shard l = length l.histories - l.shard
