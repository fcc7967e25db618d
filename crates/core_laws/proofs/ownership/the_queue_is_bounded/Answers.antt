use Rattle.core_laws.proofs.OwnerRuleLemmas.{bounded}
use Rattle.core_laws.proofs.ownership.the_queue_is_bounded.Goals as goal

pub returns : goal.returns
returns g c = record { value = λ s r. bounded g.T.Marked.mark g.T.Marked.label s r }
