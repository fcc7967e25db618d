use Rattle.std.proofs.Common.{rules, ◌≡◌, List, ℕ, take, subst}
use Rattle.std.specs.Prelude.{IfOk}
use Rattle.zy_read.proofs.SourceLemmas.{part_of_left}
use Rattle.zy_read.proofs.pieces.Pieces.first_part.Goals as goal

pub returns-clause-value : goal.returns-clause-value
returns-clause-value c =
    let same : c.in_ok-shared.shared ≡ take c.self.inside.end c.self.inside.piece.items = search rules in
    subst (λ (bytes : List ℕ). IfOk c.part-blob.result (λ blob. blob ≡ bytes)) (part_of_left c.in_ok-shared.shared c.self.inside.piece.items c.args.self.now c.self.inside.at c.self.inside.end c.args.from c.args.end same c.self.view_is c.self.invariant.0) c.part-blob.ensures.value
