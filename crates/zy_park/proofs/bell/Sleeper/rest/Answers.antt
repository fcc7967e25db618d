use Rattle.zy_park.proofs.TokenLemmas.{takes_kept}
use Rattle.zy_park.proofs.bell.Sleeper.rest.Goals as goal

pub park_as-requires-clause-rule : goal.park_as-requires-clause-rule
park_as-requires-clause-rule g c = takes_kept g.J.Lent.lent c.seat.inside.pass.id c.seat.inside.pass.me.0
