use Rattle.zy_steal.proofs.IdleLemmas.{takes_label}
use Rattle.core_laws.proofs.stealing.a_stolen_block_has_the_label.Goals as goal

pub returns : goal.returns
returns g c = record { value = λ label p q core place block idle takes. takes_label g.T.Marked.mark g.T.Marked.label label p q core place block idle takes }
