use Rattle.std.proofs.Common.{arith, rules}
use Rattle.zy_control.proofs.SeatLemmas.{counts_as}
use Rattle.zy_control.proofs.control.Control.count.Goals as goal

pub fetch_add-requires : goal.fetch_add-requires
fetch_add-requires c =
    let wide = c.self.invariant.0 in
    (search rules, omega arith, counts_as _ _ _ c.pass.inside.seat.me c.pass.invariant.0 (search rules))
