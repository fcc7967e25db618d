use Rattle.std.proofs.Common.{ℕ, ◌<◌, ◌≤◌, length}
use Rattle.zy_capture.specs.Streams.{sessions_of}
use Rattle.zy_explain.specs.Following.{sessions_on}
use Rattle.zy_explain.proofs.ending.have_sessions.Given as goal

abbrev pub invariant-loop-conn : goal.invariant-loop-conn
invariant-loop-conn l = (k : ℕ) → k < l.conn → length (sessions_of l.outputs.sessions k) ≤ sessions_on l.sessions k
