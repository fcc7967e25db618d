use Rattle.std.proofs.Common.{[], ◌∷◌}
use Rattle.core_laws.proofs.OwnerRunLemmas.{leads_one, step_grows}
use Rattle.core_laws.proofs.ownership.a_step_with_an_event_is_that_event.Goals as goal

pub returns-clause-run : goal.returns-clause-run
returns-clause-run g c = λ s t id e h. step_grows s t id (λ n. e n ∷ []) h

pub returns-clause-state : goal.returns-clause-state
returns-clause-state g c = λ s t id e h. leads_one s t (e id) (step_grows s t id (λ n. e n ∷ []) h)
