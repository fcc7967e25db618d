use Rattle.std.proofs.Common.{length, take, ◌-◌, ◌≤◌}
use Rattle.zy_base.proofs.WritingLemmas.{Written}
use Rattle.zy_base.proofs.writing.write_whole.Given as goal

-- the bytes up to the place were written
abbrev pub invariant-loop-at : goal.invariant-loop-at
invariant-loop-at g l = record {
  within : l.at ≤ length l.piece;
  written : Written g.K.Sink.holds g.K.Sink.faults g.K.Sink.finishes l.initial.sink l.sink (take l.at l.piece);
}

abbrev pub decreases-loop-at : goal.decreases-loop-at
decreases-loop-at g l = length l.piece - l.at
