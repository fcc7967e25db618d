use Rattle.std.proofs.Common.{◌++◌, rules, arith, ap, ◌∙◌}
use Rattle.zy_core.specs.Cores.{identities}
use Rattle.zy_drive.specs.Seat.{seat_identities, all_of_seats, all_of_groups}
use Rattle.zy_drive.proofs.GroupLemmas.{settled_last, taken_on, groups_last}
use Rattle.zy_drive.proofs.seats.join_all.Goals as goal

pub loop-preserved : goal.loop-preserved
loop-preserved g c =
    let inv = c.loop.invariant in let near = c.loop-test.true in let whole = c.len-end.ensures in (
      search rules,
      search rules,
      ap (λ l. l ++ all_of_seats c.remove.new.self.items) (ap all_of_groups c.push_reserved.ensures.items ∙ groups_last c.loop.back.items c.join_seat-cores.result.0)
          ∙ taken_on seat_identities (all_of_groups c.loop.back.items) c.loop.seats.items c.remove.result c.remove.new.self.items (identities c.join_seat-cores.result.0.items) (let ok = c.loop.seats.ok.0 in omega arith) c.remove.ensures.value c.remove.ensures.items c.join_seat-cores.ensures.same
          ∙ inv.2,
      (λ e before.
          let all = c.both-all.ensures.value e in
          rw c.push_reserved.ensures.items (settled_last c.loop.back.items c.join_seat-cores.result.0 (c.loop.invariant.3 all.0 before) (c.join_seat-cores.ensures.settled all.1))),
    )
