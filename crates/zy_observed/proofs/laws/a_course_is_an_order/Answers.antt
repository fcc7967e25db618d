use Rattle.zy_observed.proofs.OrderLemmas.{order_of}
use Rattle.zy_observed.proofs.laws.a_course_is_an_order.Goals as goal

pub returns : goal.returns
returns c = record {
  order = λ r calls shown cuts cut key own at store may first cold entries steps course.
      order_of r calls shown cuts cut key own at first entries steps course store may cold;
}
