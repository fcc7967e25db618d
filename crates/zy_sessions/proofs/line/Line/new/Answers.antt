use Rattle.std.proofs.Common.{subst, List}
use Rattle.zy_sessions.specs.Noting.{AppendsEmpty}
use Rattle.zy_sessions.proofs.NoteLemmas.{line_none}
use Rattle.zy_sessions.proofs.line.Line.new.Goals as goal

pub returns : goal.returns
returns c = record {
  none = λ conn. line_none conn (record { framer = c.new.result; sessions = c.begin_session.new.sessions }) c.new.ensures.empty
      (subst (λ (l : List _). AppendsEmpty l c.begin_session.new.sessions.items) c.new-sessions.ensures.items c.in_ok-begin_session.ensures.more);
}
