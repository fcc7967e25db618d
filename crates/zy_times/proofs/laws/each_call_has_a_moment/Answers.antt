use Rattle.zy_times.proofs.InTimeLemmas.{order_kept}
use Rattle.zy_times.proofs.laws.each_call_has_a_moment.Goals as goal

pub returns : goal.returns
returns c = record {
  moment = λ r timely p e is. (timely.moment p, timely.sent p e is, timely.unended p e is);
  order = λ r timely p q e other is_e is_other late. order_kept r timely p q e other is_e is_other late;
}
