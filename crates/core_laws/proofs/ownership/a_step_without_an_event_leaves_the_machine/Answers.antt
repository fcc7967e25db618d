use Rattle.std.proofs.Common.{[]}
use Rattle.core_laws.proofs.OwnerRunLemmas.{leads_all, step_stays}
use Rattle.core_laws.proofs.ownership.a_step_without_an_event_leaves_the_machine.Goals as goal

pub returns-clause-run : goal.returns-clause-run
returns-clause-run g c = λ s t id h. step_stays s t id h

pub returns-clause-state : goal.returns-clause-state
returns-clause-state g c = λ s t id h. leads_all s t [] (step_stays s t id h)
