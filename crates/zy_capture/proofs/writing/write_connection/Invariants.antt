use Rattle.std.proofs.Common.{take}
use Rattle.zy_base.proofs.WritingLemmas.{Written}
use Rattle.zy_capture.specs.Streams.{sessions_of}
use Rattle.zy_capture.specs.Replies.{numbered_from, output_text}
use Rattle.zy_capture.proofs.writing.write_connection.Given as goal

-- the records of the sessions before this one were written
abbrev pub invariant-loop-session : goal.invariant-loop-session
invariant-loop-session g l = record {
  written : Written g.K.Sink.holds g.K.Sink.faults g.K.Sink.finishes l.initial.sink l.sink (numbered_from (output_text l.outputs.version l.fn.conn) 0 (take l.session (sessions_of l.outputs.sessions l.fn.conn)));
}
