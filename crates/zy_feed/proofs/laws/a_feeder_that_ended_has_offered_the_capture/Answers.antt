use Rattle.zy_feed.proofs.WholeLemmas.{fed_all}
use Rattle.zy_feed.proofs.laws.a_feeder_that_ended_has_offered_the_capture.Goals as goal

pub returns : goal.returns
returns g c = record { all = λ first header f h begins unsent start ended leads. fed_all g.S.Source.rest g.S.Source.faults first header f h begins unsent start ended leads }
