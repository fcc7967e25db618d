use Rattle.std.proofs.Common.{◌≡◌, take, length}
use Rattle.std.specs.List.{sum_by}
use Rattle.zy_capture.specs.Streams.{sessions_of}
use Rattle.zy_self.proofs.numbers.bytes_of.Given as goal

abbrev pub invariant-loop-session : goal.invariant-loop-session
invariant-loop-session l = l.total ≡ sum_by length (take l.session (sessions_of l.outputs.sessions l.conn))
