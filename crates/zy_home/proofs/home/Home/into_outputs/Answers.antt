use Rattle.std.proofs.Common.{sym, ap, ◌∙◌, subst}
use Rattle.std.specs.List.{AllByRecursion}
use Rattle.zy_home.specs.End.{HasLabel}
use Rattle.zy_home.specs.Home.{Homed}
use Rattle.zy_home.proofs.BlockLemmas.{each_block}
use Rattle.zy_home.proofs.home.Home.into_outputs.Goals as goal

pub returns-clause-labels : goal.returns-clause-labels
returns-clause-labels c =
    subst (AllByRecursion (HasLabel c.args.self.pass.label)) (sym c.from_slots.ensures.value)
    (each_block (HasLabel c.args.self.pass.label) c.self.inside.blocks.items (λ p b e. (c.self.invariant.here p b e).1 ∙ ap (λ (h : Homed). h.pass.label) c.self.view_is))
