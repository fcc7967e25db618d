use Rattle.std.proofs.Common.{◌≡◌, ℕ, List, ◌++◌, ◌-◌, ◌≤◌, length, drop}
use Rattle.zy_base.proofs.WritingLemmas.{Written}
use Rattle.zy_pcap.specs.Texts.{stream_text}
use Rattle.zy_pcap.proofs.writing.write_stream.Given as goal

-- a text was written, and the bytes from the place on are left
abbrev pub invariant-loop-at : goal.invariant-loop-at
invariant-loop-at g l = record {
  within : l.at ≤ length l.bytes;
  text : List ℕ;
  written : Written g.K.Sink.holds g.K.Sink.faults g.K.Sink.finishes l.initial.sink l.sink text;
  left : text ++ stream_text l.fn.conn (drop l.at l.bytes) ≡ stream_text l.fn.conn l.bytes;
}

abbrev pub decreases-loop-at : goal.decreases-loop-at
decreases-loop-at g l = length l.bytes - l.at
