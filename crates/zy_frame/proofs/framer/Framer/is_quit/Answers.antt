use Rattle.std.proofs.Common.{sym, ap, ◌∙◌, subst}
use Rattle.zy_frame.specs.Progress.{Keeps, is_quit}
use Rattle.zy_frame.specs.Steps.{progress_of}
use Rattle.zy_frame.proofs.Feeding.{quit_exact, not_quit}
use Rattle.zy_frame.proofs.framer.Framer.is_quit.Goals as goal

pub returns-in-Quit-clause-exact : goal.returns-in-Quit-clause-exact
returns-in-Quit-clause-exact c =
    let keeps = subst Keeps c.self.view_is c.self.invariant.0 in
    λ fed stands. ap is_quit (sym (ap progress_of c.in-Quit.is) ∙ c.self.view_is) ∙ quit_exact c.args.self.now fed keeps stands

pub returns-in_default : goal.returns-in_default
returns-in_default c =
    let keeps = subst Keeps c.self.view_is c.self.invariant.0 in
    let other = not_quit c.self.inside.state c.in_default.not-Quit ∙ ap is_quit c.self.view_is in
    record { value = other; exact = λ fed stands. other ∙ quit_exact c.args.self.now fed keeps stands }
