use Rattle.std.proofs.Common.{[]}
use Rattle.core_laws.proofs.OwnerRunLemmas.{leads_all, one_run}
use Rattle.core_laws.proofs.ownership.the_views_know_one_run.Goals as goal

pub returns-clause-run : goal.returns-clause-run
returns-clause-run g c = λ s r q. one_run s.views r.follows.events q.follows.events r.follows.known q.follows.known

pub returns-clause-state : goal.returns-clause-state
returns-clause-state g c = λ s r q. leads_all (s, q) (s, r) [] (one_run s.views r.follows.events q.follows.events r.follows.known q.follows.known)
