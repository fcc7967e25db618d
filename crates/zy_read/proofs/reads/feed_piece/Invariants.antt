use Rattle.std.proofs.Common.{◌≡◌, ◌<◌, ◌≤◌, ◌-◌, [], length, take}
use Rattle.std.specs.Prelude.{None}
use Rattle.zy_read.specs.Standing.{Feeds}
use Rattle.zy_read.proofs.reads.feed_piece.Given as goal

-- the bytes up to the place were fed, and ended nothing
abbrev pub invariant-loop-at : goal.invariant-loop-at
invariant-loop-at g l = record {
  within : l.at ≤ length l.bytes;
  fed : Feeds g.R.Reads.format l.initial.reader l.reader (take l.at l.bytes) [];
  still : 0 < l.at → g.R.Reads.format.fault_in l.reader ≡ None;
}

abbrev pub decreases-loop-at : goal.decreases-loop-at
decreases-loop-at g l = length l.bytes - l.at
