use Rattle.std.proofs.Common.{take}
use Rattle.zy_base.proofs.WritingLemmas.{Written}
use Rattle.zy_capture.specs.Replies.{numbered_from}
use Rattle.zy_pcap.specs.Texts.{kept_connection}
use Rattle.zy_pcap.proofs.writing.write_connections.Given as goal

-- the records of the connections before this one were written
abbrev pub invariant-loop-conn : goal.invariant-loop-conn
invariant-loop-conn g l = record {
  written : Written g.K.Sink.holds g.K.Sink.faults g.K.Sink.finishes l.initial.sink l.sink (numbered_from kept_connection 0 (take l.conn l.flows));
}
