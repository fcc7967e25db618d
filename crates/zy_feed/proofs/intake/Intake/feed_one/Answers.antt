use Rattle.std.proofs.Common.{◌≡◌, ℕ, List, take, arith, ap}
use Rattle.zy_feed.proofs.PieceLemmas.{piece_taken}
use Rattle.zy_feed.proofs.intake.Intake.feed_one.Goals as goal

pub returns : goal.returns
returns c =
    let bytes : take 1 c.left-left.result.now ≡ take 1 c.self.inside.pieces = ap (λ (l : List ℕ). take 1 l) c.left-left.ensures.value in
    record {
      value = rw (← c.self.view_is, c.pass.ensures.value) (piece_taken 1 1 c.feed_piece-taken.result.taken c.self.inside.reader c.feed_piece-taken.new.self c.self.inside.pieces _ c.feed_piece-taken.result.answer
          bytes (omega arith) c.feed_piece-taken.ensures.within c.feed_piece-taken.ensures.taken c.feed_piece-taken.ensures.fed c.feed_piece-taken.ensures.exact c.feed_piece-taken.ensures.lasts);
    }
