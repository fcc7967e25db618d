use Rattle.zy_feed.proofs.WholeLemmas.{counts_on}
use Rattle.core_laws.proofs.feeding.a_feeder_counts_on.Goals as goal

pub returns : goal.returns
returns g c = record { count = λ first header f h begins unsent start leads. counts_on g.S.Source.rest g.S.Source.faults first header f h begins unsent start leads }
