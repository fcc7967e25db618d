use Rattle.std.proofs.Common.{refl, ◌∙◌}
use Rattle.zy_rx.specs.Session.{received_by}
use Rattle.core_laws.proofs.HomeLemmas.{ended_conns, home_finished}
use Rattle.core_laws.proofs.homes.a_settled_home_is_finished.Goals as goal

pub returns-clause-conns : goal.returns-clause-conns
returns-clause-conns c = λ h k. ended_conns h.links ∙ k.conns

pub returns-clause-finished : goal.returns-clause-finished
returns-clause-finished c = λ h items k settled stands. home_finished h items (λ conn. received_by conn items) k settled stands (λ conn own. refl)
