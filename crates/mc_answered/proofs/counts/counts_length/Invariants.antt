use Rattle.std.proofs.Common.{◌-◌, length}
use Rattle.mc_answered.proofs.CountLemmas.{AreCounted}
use Rattle.mc_answered.proofs.counts.counts_length.Given as goal

-- fewer bytes are left
abbrev pub decreases-loop-length : goal.decreases-loop-length
decreases-loop-length l = length l.bytes - l.at

-- the lines so far are counts
abbrev pub invariant-loop-length : goal.invariant-loop-length
invariant-loop-length l = AreCounted l.bytes l.at
