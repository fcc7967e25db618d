use Rattle.core_laws.proofs.OwnerRunLemmas.{join_stays, split_stays}
use Rattle.core_laws.proofs.ownership.giving_or_joining_a_pass_is_no_event.Goals as goal

pub returns-clause-given : goal.returns-clause-given
returns-clause-given g c = λ s t id h. split_stays s t id h

pub returns-clause-joined : goal.returns-clause-joined
returns-clause-joined g c = λ s t id h. join_stays s t id h
