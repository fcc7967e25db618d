use Rattle.std.proofs.Common.{arith, List, ℕ, ◌++◌, subst}
use Rattle.zy_frame.specs.Progress.{StandsFor}
use Rattle.zy_frame.specs.Feed.{Appends}
use Rattle.zy_check.proofs.CursorLemmas.{fed_on}
use Rattle.zy_check.proofs.cursor.Cursor.read_on.Goals as goal

pub returns-clause-same : goal.returns-clause-same
returns-clause-same c =
    rw (← c.self.view_is) (fed_on c.self.inside.framer c.feed-fed.new.self c.self.inside.frames c.feed-fed.new.frames c.self.inside.at c.piece_end-end.result c.args.stream.now
    (let on = c.piece_end-end.ensures.some in omega arith) c.piece_end-end.ensures.within
    (subst (λ (piece : List ℕ). (fed : List ℕ) → StandsFor c.self.inside.framer fed → StandsFor c.feed-fed.new.self (fed ++ piece)) c.in_ok-piece.ensures.value c.in_ok-fed.ensures.fed)
    (subst (λ (piece : List ℕ). (fed : List ℕ) → StandsFor c.self.inside.framer fed → Appends fed piece c.self.inside.frames c.feed-fed.new.frames) c.in_ok-piece.ensures.value c.in_ok-fed.ensures.due))
