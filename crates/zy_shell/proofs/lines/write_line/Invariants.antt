use Rattle.std.proofs.Common.{take}
use Rattle.std.specs.Prelude.{flat_map}
use Rattle.zy_base.proofs.WritingLemmas.{Written}
use Rattle.zy_shell.specs.Line.{piece_text}
use Rattle.zy_shell.proofs.lines.write_line.Given as goal

-- the pieces up to the place were written
abbrev pub invariant-loop-piece : goal.invariant-loop-piece
invariant-loop-piece g l = record {
  written : Written g.K.Sink.holds g.K.Sink.faults g.K.Sink.finishes l.initial.sink l.sink (flat_map piece_text (take l.piece-index l.pieces));
}
