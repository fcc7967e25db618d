use Rattle.zy_base.proofs.WritingLemmas.{pieces_failed}
use Rattle.zy_shell.specs.Line.{piece_text}
use Rattle.zy_shell.proofs.lines.write_line.Goals as goal

pub returns-in_err-write_piece : goal.returns-in_err-write_piece
returns-in_err-write_piece g c = record {
  writes = pieces_failed piece_text c.args.pieces.now c.loop-piece.piece-index _ c.from_residual.ensures.0 c.loop-piece-test.true c.loop-piece.invariant.written c.in_err-write_piece.ensures.writes;
}
