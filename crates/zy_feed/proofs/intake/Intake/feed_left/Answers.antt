use Rattle.std.proofs.Common.{ℕ, List, length, sym, arith}
use Rattle.std.proofs.Math.Seq.{take-length}
use Rattle.zy_feed.proofs.PieceLemmas.{piece_taken}
use Rattle.zy_feed.proofs.intake.Intake.feed_left.Goals as goal

pub returns : goal.returns
returns c =
    let all : List ℕ = c.self.inside.pieces in
    record {
      value = rw (← c.self.view_is, c.pass.ensures.value, c.feed_left-taken.ensures.kept) (piece_taken (length all) (length all) c.feed_left-taken.result.taken c.self.inside.reader c.feed_left-taken.new.self all all c.feed_left-taken.result.answer
          (sym (take-length all)) (omega arith) c.feed_left-taken.ensures.within c.feed_left-taken.ensures.taken c.feed_left-taken.ensures.fed c.feed_left-taken.ensures.exact c.feed_left-taken.ensures.lasts);
    }
