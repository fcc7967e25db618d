use Rattle.std.proofs.Common.{◌++◌, Vec, refl, arith, ap, ◌∙◌}
use Rattle.std.specs.declared.alloc.Global.{Global}
use Rattle.zy_core.specs.declared.logical_core.Core.{Core}
use Rattle.zy_core.specs.Cores.{identities}
use Rattle.zy_rounds.specs.Group.{Grouped}
use Rattle.zy_drive.specs.Seat.{seat_identities, all_of_seats, all_of_groups}
use Rattle.zy_drive.proofs.GroupLemmas.{taken_on, seats_last, fit_rest, none_left}
use Rattle.zy_drive.proofs.seats.start_all.Goals as goal

pub loop-t-init : goal.loop-t-init
loop-t-init g c = (
  omega arith,
  omega arith,
  c.len-count.ensures,
  c.requires.room,
  omega arith,
  c.requires.fits,
  refl,
  c.requires.bells,
)

pub loop-t-preserved : goal.loop-t-preserved
loop-t-preserved g c =
    let inv = c.loop-t.invariant in let near = c.loop-t-test.true in (
      omega (arith, c.remove.ensures.len, inv.0),
      inv.1,
      inv.2,
      omega (arith, c.push_reserved.ensures.len, c.push_reserved.ensures.capacity, c.remove.ensures.len, inv.3),
      omega (arith, c.push_reserved.ensures.len, c.remove.ensures.len, inv.4),
      fit_rest c.args.driving.now.shared.now c.loop-t.groups.items c.remove.new.self.items c.remove.ensures.items inv.5,
      ap (λ l. l ++ all_of_groups c.remove.new.self.items) (ap all_of_seats c.push_reserved.ensures.items ∙ seats_last c.loop-t.seats.items c.seat_group-seat.result)
          ∙ taken_on (λ (g : Vec Core Global). identities g.items) (all_of_seats c.loop-t.seats.items) c.loop-t.groups.items c.remove.result c.remove.new.self.items (seat_identities c.seat_group-seat.result) (let ok = c.loop-t.groups.ok.0 in omega (arith, inv.0)) c.remove.ensures.value c.remove.ensures.items
          (c.seat_group-seat.ensures.same ∙ ap (λ (g : Grouped). identities g.cores) c.new-group.ensures.value)
          ∙ inv.6,
      c.next-rester.ensures.left c.args.driving.now.bells.now inv.7,
    )

pub returns-clause-same : goal.returns-clause-same
returns-clause-same g c =
    let end = c.loop-t-test.false in let ok = c.loop-t.groups.ok.0 in
    none_left (all_of_seats c.loop-t.seats.items) (all_of_seats c.args.seats.now.items ++ all_of_groups c.args.groups.items) c.loop-t.groups.items (omega (arith, c.loop-t.invariant.0)) c.loop-t.invariant.6

pub seat_group-seat-requires-clause-rests : goal.seat_group-seat-requires-clause-rests
seat_group-seat-requires-clause-rests g c = λ lifetimes within. c.next-rester.ensures.rests c.args.driving.now.bells.now c.loop-t.invariant.7
