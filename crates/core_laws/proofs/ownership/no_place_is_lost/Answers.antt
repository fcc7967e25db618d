use Rattle.core_laws.proofs.OwnerRuleLemmas.{somewhere}
use Rattle.core_laws.proofs.ownership.no_place_is_lost.Goals as goal

pub returns : goal.returns
returns g c = record { value = λ s r home place near. somewhere g.T.Marked.mark g.T.Marked.label s r home.0 home.1 home.2 place near }
