use Rattle.std.proofs.Common.{arith, rules, ap, ◌∙◌}
use Rattle.std.specs.Int.{bit_at}
use Rattle.zy_control.specs.Step.{Seated}
use Rattle.zy_control.proofs.SeatLemmas.{stops_as}
use Rattle.zy_control.proofs.MoveLemmas.{first_bit}
use Rattle.zy_control.proofs.control.Control.stop.Goals as goal

pub fetch_or-requires : goal.fetch_or-requires
fetch_or-requires c =
    let wide = c.self.invariant.0 in
    (search rules, omega arith, stops_as _ _ _ 1 c.pass.inside.seat.me c.pass.invariant.0)

pub returns-clause-set : goal.returns-clause-set
returns-clause-set c = ap (λ (m : Seated). bit_at m.0.trace.stop.value 0) c.fetch_or.ensures.2.0 ∙ first_bit _
