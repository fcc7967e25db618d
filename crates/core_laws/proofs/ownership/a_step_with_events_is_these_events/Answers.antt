use Rattle.core_laws.proofs.OwnerRunLemmas.{leads_all, step_grows}
use Rattle.core_laws.proofs.ownership.a_step_with_events_is_these_events.Goals as goal

pub returns-clause-run : goal.returns-clause-run
returns-clause-run g c = λ s t id acts h. step_grows s t id acts h

pub returns-clause-state : goal.returns-clause-state
returns-clause-state g c = λ s t id acts h. leads_all s t (acts id) (step_grows s t id acts h)
