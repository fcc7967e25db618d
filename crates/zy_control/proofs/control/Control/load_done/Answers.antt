use Rattle.std.proofs.Common.{arith, rules}
use Rattle.zy_control.proofs.SeatLemmas.{sees_done_as}
use Rattle.zy_control.proofs.control.Control.load_done.Goals as goal

pub load-requires : goal.load-requires
load-requires c =
    let wide = c.self.invariant.0 in
    (search rules, omega arith, sees_done_as _ _ _ c.pass.inside.seat.me c.pass.invariant.0)
