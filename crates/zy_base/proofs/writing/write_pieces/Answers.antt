use Rattle.zy_base.proofs.WritingLemmas.{pieces_failed}
use Rattle.zy_base.proofs.writing.write_pieces.Goals as goal

pub returns-in_err-write_whole : goal.returns-in_err-write_whole
returns-in_err-write_whole g c = record {
  writes = pieces_failed (λ piece. piece.now) c.args.pieces.now c.loop-piece.piece-index _ c.from_residual.ensures.0 c.loop-piece-test.true c.loop-piece.invariant.written c.in_err-write_whole.ensures.writes;
}
