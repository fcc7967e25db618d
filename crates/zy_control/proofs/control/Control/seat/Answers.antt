use Rattle.std.proofs.Common.{◌≡◌, arith, rules, ap}
use Rattle.zy_control.specs.Pass.{Controlled, Rooted}
use Rattle.zy_control.proofs.SeatLemmas.{gives_as}
use Rattle.zy_control.proofs.control.Control.seat.Goals as goal

pub split_seat-seat-requires : goal.split_seat-seat-requires
split_seat-seat-requires c =
    let wide = c.self.invariant.0 in
    let given : c.root.inside.given ≡ c.args.root.now.given = ap (λ (r : Rooted). r.given) c.root.view_is in
    let cores : c.self.inside.cores ≡ c.args.self.now.cores = ap (λ (x : Controlled). x.cores) c.self.view_is in
    let key = c.self.invariant.1 in
    let few = c.requires.few in
    (search rules, omega arith, gives_as _ _ c.root.inside.given c.root.inside.seat.me.0 c.root.invariant.1 (omega arith))
