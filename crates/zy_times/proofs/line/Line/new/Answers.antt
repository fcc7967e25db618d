use Rattle.std.proofs.Common.{subst, List}
use Rattle.zy_times.specs.Line.{BeginsNext}
use Rattle.zy_times.proofs.LineLemmas.{line_none}
use Rattle.zy_times.proofs.line.Line.new.Goals as goal

pub returns : goal.returns
returns c = record {
  none = λ conn. line_none conn (record { framer = c.new.result; sessions = c.begin_session.new.sessions }) c.new.ensures.empty
      (subst (λ (l : List _). BeginsNext l c.begin_session.new.sessions.items) c.new-sessions.ensures.items c.in_ok-begin_session.ensures.more);
}
