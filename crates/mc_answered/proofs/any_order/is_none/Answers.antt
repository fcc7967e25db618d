use Rattle.std.proofs.Common.{sym, ◌∙◌}
use Rattle.mc_answered.proofs.FoundLemmas.{none_left}
use Rattle.mc_answered.proofs.any_order.is_none.Goals as goal

pub returns : goal.returns
returns c = record { value = λ is. none_left c.args.left.now (sym c.is_empty.ensures ∙ is) }
