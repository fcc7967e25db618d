use Rattle.std.proofs.Common.{sym}
use Rattle.zy_read.proofs.SourceLemmas.{piece_on}
use Rattle.zy_read.proofs.pieces.Pieces.pass.Goals as goal

pub returns : goal.returns
returns c = record {
  value = piece_on c.self.inside.piece.items c.args.self.now c.self.inside.at c.self.inside.end c.args.count (sym c.self.view_is) c.requires.within c.self.invariant.0 c.self.invariant.1;
}
