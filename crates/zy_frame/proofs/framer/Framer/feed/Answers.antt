use Rattle.std.proofs.Common.{◌≤◌, List, ℕ, length, sym, ap, ◌∙◌, subst}
use Rattle.zy_frame.specs.Feed.{AppendsFirst}
use Rattle.zy_frame.specs.Steps.{progress_of}
use Rattle.zy_frame.proofs.Feeding.{stands_on, appends, appends_first, appends_none, taken_all, taken_quit, quit_state, refused_state}
use Rattle.zy_frame.proofs.framer.Framer.feed.Goals as goal

pub returns-in-Quit-clause-fed : goal.returns-in-Quit-clause-fed
returns-in-Quit-clause-fed c =
    let quit = taken_quit c.args.self.now c.args.frames.now c.args.piece.now (sym c.self.view_is ∙ ap progress_of c.in-Quit.is) in
    λ fed stands. stands_on c.args.self.now c.args.self.now c.args.frames.now c.args.frames.now fed c.args.piece.now quit stands

pub returns-in-Quit-clause-due : goal.returns-in-Quit-clause-due
returns-in-Quit-clause-due c =
    let quit = taken_quit c.args.self.now c.args.frames.now c.args.piece.now (sym c.self.view_is ∙ ap progress_of c.in-Quit.is) in
    λ fed stands. appends c.args.self.now c.args.self.now c.args.frames.now c.args.frames.now fed c.args.piece.now quit stands

pub returns-in-Refused-clause-first : goal.returns-in-Refused-clause-first
returns-in-Refused-clause-first c = λ fed stands. appends_none c.args.self.now c.args.frames.now fed c.args.piece.now stands

pub returns-in-Err : goal.returns-in-Err
returns-in-Err c = record {
  fed = tt;
  due = tt;
  quit = λ is. absurd (c.in_default.not-Quit (quit_state c.self.inside.state (c.self.view_is ∙ is)));
  lasts = λ is. absurd (c.in_default.not-Quit (quit_state c.self.inside.state (c.self.view_is ∙ is)));
  none = λ is. absurd (c.in_default.not-Quit (quit_state c.self.inside.state (c.self.view_is ∙ is)));
  first = λ fed stands. subst (AppendsFirst fed c.args.piece.now c.args.frames.now) (sym c.in-Err.ensures.value.1)
      (appends_first c.args.self.now c.loop-at.self c.args.frames.now c.loop-at.frames fed c.args.piece.now c.loop-at.at c.loop-at.invariant.1 stands);
  refused = c.in-Err.ensures.value.0;
  stays = λ is. absurd (c.in_default.not-Refused (refused_state c.self.inside.state (c.self.view_is ∙ is)));
  kept = λ is. absurd (c.in_default.not-Refused (refused_state c.self.inside.state (c.self.view_is ∙ is)));
}

pub returns : goal.returns
returns c =
    let all = taken_all c.args.self.now c.loop-at.self c.args.frames.now c.loop-at.frames c.args.piece.now c.loop-at.at (subst (λ (l : List ℕ). length l ≤ c.loop-at.at) c.bytes.ensures.value c.loop-at-test.false) c.loop-at.invariant.1 in
    record {
      fed = λ fed stands. stands_on c.args.self.now c.loop-at.self c.args.frames.now c.loop-at.frames fed c.args.piece.now all stands;
      due = λ fed stands. appends c.args.self.now c.loop-at.self c.args.frames.now c.loop-at.frames fed c.args.piece.now all stands;
      quit = λ is. absurd (c.in_default.not-Quit (quit_state c.self.inside.state (c.self.view_is ∙ is)));
      lasts = λ is. absurd (c.in_default.not-Quit (quit_state c.self.inside.state (c.self.view_is ∙ is)));
      none = λ is. absurd (c.in_default.not-Quit (quit_state c.self.inside.state (c.self.view_is ∙ is)));
      first = tt;
      refused = tt;
      stays = λ is. absurd (c.in_default.not-Refused (refused_state c.self.inside.state (c.self.view_is ∙ is)));
      kept = λ is. absurd (c.in_default.not-Refused (refused_state c.self.inside.state (c.self.view_is ∙ is)));
    }
