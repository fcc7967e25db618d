use Rattle.std.specs.Prelude.{[]}
use Rattle.zy_frame.specs.Progress.{Progress, StandsFor}
use Rattle.std.proofs.Common.{sym, subst}
use Rattle.zy_times.proofs.LineLemmas.{line_closed}
use Rattle.zy_times.proofs.line.Line.close.Goals as goal

pub returns : goal.returns
returns c = record {
  kept = λ records h. line_closed records c.args.conn c.args.self.now (record { framer = c.replace.new.dest; sessions = c.begin_session.new.sessions }) h
      (subst (λ (f : Progress). StandsFor f []) (sym c.replace.ensures.after) c.new.ensures.empty) c.in_ok-begin_session.ensures.more;
}
