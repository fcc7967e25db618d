use Rattle.std.proofs.Common.{[], ◌∷◌, Some, ap, ◌++◌, ◌∙◌}
use Rattle.zy_home.specs.End.{blocks_in}
use Rattle.zy_home.proofs.BlockLemmas.{blocks_in-append}
use Rattle.zy_home.proofs.blocks.Blocks.push.Goals as goal

pub returns-clause-ok : goal.returns-clause-ok
returns-clause-ok c =
    ap blocks_in c.in_default.ensures.items ∙ blocks_in-append c.self.inside.slots.items (Some c.args.block ∷ [])
    ∙ ap (λ l. l ++ c.args.block ∷ []) c.self.view_is
