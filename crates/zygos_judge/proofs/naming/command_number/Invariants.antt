use Rattle.std.specs.Prelude.{◌≡◌, ℕ}
use Rattle.zy_sessions.specs.Sessions.{SessionsHold}
use Rattle.zy_verdict.specs.Recorded.{Recorded}
use Rattle.zygos_judge.specs.Finding.{commands_before}
use Rattle.zygos_judge.proofs.naming.command_number.Given as goal

-- the sessions so far have this number of commands
abbrev pub invariant-loop-session : goal.invariant-loop-session
invariant-loop-session l = record {
  before : (count : ℕ) (r : Recorded) → SessionsHold l.sessions count r.records → commands_before r l.name.conn l.session ≡ l.before;
}
