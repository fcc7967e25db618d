use Rattle.zy_verdict.proofs.CourseLemmas.{before_first}
use Rattle.zy_verdict.proofs.laws.before_is_kept.Goals as goal

pub returns : goal.returns
returns c = record {
  order = λ r cuts key first entries steps course p q e other is others before.
      before_first r cuts key first entries steps course p q e other is others before;
}
