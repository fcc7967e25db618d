use Rattle.core_laws.proofs.OwnerHolderLemmas.{knows_held}
use Rattle.core_laws.proofs.ownership.what_a_pass_knows_of_its_hand_stays.Goals as goal

pub returns : goal.returns
returns g c = record { value = λ s id c'. knows_held s id c' }
