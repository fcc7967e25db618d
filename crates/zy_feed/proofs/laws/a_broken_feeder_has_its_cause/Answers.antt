use Rattle.zy_feed.proofs.WholeLemmas.{has_cause}
use Rattle.zy_feed.proofs.laws.a_broken_feeder_has_its_cause.Goals as goal

pub returns : goal.returns
returns g c = record { cause = λ first header f h stop begins unsent start broken leads. has_cause g.S.Source.rest g.S.Source.faults first header f h stop begins unsent start broken leads }
