use Rattle.zy_steal.proofs.IdleLemmas.{given_back}
use Rattle.core_laws.proofs.stealing.a_block_given_back_leaves_the_hands.Goals as goal

pub returns : goal.returns
returns g c = record { value = λ label p q r core place block given same idle takes gives. given_back g.T.Marked.mark g.T.Marked.label label p q r core place block given same idle takes gives }
