use Rattle.std.proofs.Common.{◌≡◌, ◌∙◌, arith, rules}
use Rattle.zy_table.proofs.SliceLemmas.{get_at}
use Rattle.zy_drive.specs.declared.seat.Seat.{Seat}
use Rattle.zy_drive.specs.Seat.{seat_identities, turns_here, turns_due}
use Rattle.zy_rounds.proofs.CoreLemmas.{same_more, related_more, related_all}
use Rattle.zy_core.proofs.ListLemmas.{map_set}
use Rattle.zy_drive.proofs.GroupLemmas.{fit_there, related_map}
use Rattle.zy_drive.proofs.seats.go_on_here.Goals as goal

pub go_on_seat-requires : goal.go_on_seat-requires
go_on_seat-requires g c =
    let near = c.loop-i-test.true in let len = c.loop-i.invariant.len in let whole = c.len-i-end.ensures in
    record { fits = fit_there seat_identities c.args.driving.now.shared.now c.args.seats.now.items c.loop-i.seats.items c.loop-i.i c.index_mut-seat.result.now (omega arith) c.index_mut-seat.ensures.value c.loop-i.invariant.same c.requires.fits }

pub returns-in_err-round-clause-same : goal.returns-in_err-round-clause-same
returns-in_err-round-clause-same g c =
    let near = c.loop-i-test.true in let len = c.loop-i.invariant.len in let whole = c.len-i-end.ensures in
    (map_set seat_identities c.loop-i.seats.items c.loop-i.i c.index_mut-seat.result.now c.go_on_seat.new.seat (get_at _ c.loop-i.i c.index_mut-seat.result.now c.index_mut-seat.result.now (omega arith) c.index_mut-seat.ensures.value) c.go_on_seat.ensures.same ∙ c.loop-i.invariant.same, search rules)

pub loop-i-preserved : goal.loop-i-preserved
loop-i-preserved g c =
    let near = c.loop-i-test.true in let len = c.loop-i.invariant.len in let whole = c.len-i-end.ensures in
    record {
      len = search rules;
      turned = related_more (λ (s t : Seat). turns_here t ≡ turns_due s) c.loop-i.i c.args.seats.now.items c.loop-i.seats.items c.index_mut-seat.result.now c.go_on_seat.new.seat (get_at _ c.loop-i.i c.index_mut-seat.result.now c.index_mut-seat.result.now (omega arith) c.index_mut-seat.ensures.value)
          c.loop-i.invariant.rest c.in_ok-round.ensures.turns c.loop-i.invariant.turned;
      rest = same_more c.loop-i.i c.args.seats.now.items c.loop-i.seats.items c.go_on_seat.new.seat c.loop-i.invariant.rest;
      same = map_set seat_identities c.loop-i.seats.items c.loop-i.i c.index_mut-seat.result.now c.go_on_seat.new.seat (get_at _ c.loop-i.i c.index_mut-seat.result.now c.index_mut-seat.result.now (omega arith) c.index_mut-seat.ensures.value) c.go_on_seat.ensures.same ∙ c.loop-i.invariant.same;
    }

pub returns-clause-turns : goal.returns-clause-turns
returns-clause-turns g c =
    let end = c.loop-i-test.false in let len = c.loop-i.invariant.len in let whole = c.len-i-end.ensures in
    related_map turns_due turns_here c.args.seats.now.items c.loop-i.seats.items (let ok = c.loop-i.seats.ok.0 in let was = c.args.seats.now.ok.0 in omega arith)
    (related_all (λ (s t : Seat). turns_here t ≡ turns_due s) c.loop-i.i c.args.seats.now.items c.loop-i.seats.items (let ok = c.loop-i.seats.ok.0 in omega arith) c.loop-i.invariant.turned)
