use Rattle.std.proofs.Common.{sym, ap, ◌∙◌}
use Rattle.zy_park.specs.Bell.{Seated}
use Rattle.zy_park.proofs.SeatLemmas.{parkers_end}
use Rattle.zy_park.proofs.bells.making.add.Goals as goal

pub invariant_of-root-2 : goal.invariant_of-root-2
invariant_of-root-2 c =
    let sleepers = c.in_ok-reserve-2.ensures.items in let seats = c.in_ok-reserve-3.ensures.items in
    rw (c.push_reserved-2.ensures.items, c.push_reserved-3.ensures.items, sleepers, seats)
    (parkers_end c.root.inside.seats.items c.root.inside.sleepers.items c.in_ok-bell.seat c.in_ok-bell.sleeper c.root.invariant
    (c.in_ok-bell.ensures.sleeper ∙ sym (ap (λ (s : Seated). s.table) c.in_ok-bell.ensures.seat)))
