use Rattle.core_laws.proofs.OwnerRuleLemmas.{one_hand}
use Rattle.core_laws.proofs.ownership.no_place_is_in_two_hands.Goals as goal

pub returns : goal.returns
returns g c = record { value = λ s r i j place a b. one_hand g.T.Marked.mark g.T.Marked.label s r i j place a.0 b.0 a.1 b.1 a.2 b.2 }
