use Rattle.std.proofs.Common.{arith, ◌∙◌}
use Rattle.std.proofs.lemmas.Grind.{common_steps}
use Rattle.zy_base.proofs.WritingLemmas.{grew_piece}
use Rattle.zy_base.proofs.writing.write_whole.Goals as goal

pub loop-at-preserved : goal.loop-at-preserved
loop-at-preserved g c = record {
  within = grind (arith, common_steps, c.in_ok-at.ensures.bound);
  written = record {
    grew = grew_piece (g.K.Sink.holds c.args.sink.now) (g.K.Sink.holds c.loop-at.sink) (g.K.Sink.holds c.write.new.self) c.args.piece.now c.loop-at.at c.in_ok-at.field-0 c.loop-at.invariant.written.grew c.in_ok-at.ensures.bytes;
    count = omega (arith, c.loop-at.invariant.written.count, c.in_ok-at.ensures.count);
    unfinished = c.in_ok-at.ensures.unfinished ∙ c.loop-at.invariant.written.unfinished;
  };
}
