use Rattle.std.proofs.Common.{List, ℕ, drop, subst, sym}
use Rattle.std.proofs.lemmas.List.{take_rest}
use Rattle.zy_base.specs.Rest.{IsRestOf}
use Rattle.zy_base.proofs.RestLemmas.{rest_after}
use Rattle.zy_frame.proofs.framer.Framer.advance.Goals as goal

pub step-requires-clause-rest : goal.step-requires-clause-rest
step-requires-clause-rest c =
    let bytes = c.bytes.result.now in
    subst (λ (rest : List ℕ). IsRestOf rest c.args.piece.now) (sym (take_rest bytes c.args.at))
    (subst (λ (whole : List ℕ). IsRestOf (drop c.args.at bytes) whole) c.bytes.ensures.value (rest_after c.args.at bytes))
