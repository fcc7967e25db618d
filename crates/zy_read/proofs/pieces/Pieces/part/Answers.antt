use Rattle.std.proofs.Common.{rules, ◌≡◌, List, ℕ, take, subst}
use Rattle.std.specs.Prelude.{IfOk}
use Rattle.zy_read.proofs.SourceLemmas.{part_of_left}
use Rattle.zy_read.proofs.pieces.Pieces.part.Goals as goal

pub returns-in-Some-clause-value : goal.returns-in-Some-clause-value
returns-in-Some-clause-value c =
    let same : c.in-Some.shared ≡ take c.self.inside.end c.self.inside.piece.items = search rules in
    subst (λ (bytes : List ℕ). IfOk c.part.result (λ blob. blob ≡ bytes)) (part_of_left c.in-Some.shared c.self.inside.piece.items c.args.self.now c.self.inside.at c.self.inside.end c.args.from c.args.end same c.self.view_is c.self.invariant.0) c.part.ensures.value
