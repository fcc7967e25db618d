use Rattle.std.proofs.Common.{◌≡◌, ◌<◌, ◌≤◌, ◌-◌, length, take}
use Rattle.std.specs.Prelude.{None}
use Rattle.zy_pcap.specs.Standing.{FeedsFile, Meets}
use Rattle.zy_pcap.proofs.reader.PcapReader.feed_piece.Given as goal

-- the bytes up to the place were fed, and have no fault
abbrev pub invariant-loop-at : goal.invariant-loop-at
invariant-loop-at l = record {
  within : l.at ≤ length l.bytes;
  port : l.self.port ≡ l.initial.self.port;
  fed : FeedsFile l.initial.self l.self (take l.at l.bytes);
  still : 0 < l.at → Meets l.initial.self (take l.at l.bytes) None;
}

abbrev pub decreases-loop-at : goal.decreases-loop-at
decreases-loop-at l = length l.bytes - l.at
