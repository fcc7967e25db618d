use Rattle.zy_home.proofs.OwnLemmas.{own-here, own-else}
use Rattle.core_laws.proofs.homes.own_connections_come_in_turn.Goals as goal

pub returns-clause-own : goal.returns-clause-own
returns-clause-own c = own-here

pub returns-clause-others : goal.returns-clause-others
returns-clause-others c = own-else
