use Rattle.zy_park.proofs.TokenLemmas.{rings_kept}
use Rattle.zy_park.proofs.bell.Bell.ring.Goals as goal

pub unpark_as-requires-clause-rule : goal.unpark_as-requires-clause-rule
unpark_as-requires-clause-rule c = rings_kept c.seat.inside.pass.id c.seat.inside.pass.me.0
