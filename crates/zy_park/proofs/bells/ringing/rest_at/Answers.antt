use Rattle.std.proofs.Common.{refl, arith}
use Rattle.std.proofs.lemmas.List.{length-map}
use Rattle.std.proofs.lemmas.Option.{slice_get_read, slice_get_within}
use Rattle.zy_park.specs.Token.{takes}
use Rattle.zy_park.specs.Bell.{Seated, tables_of}
use Rattle.zy_park.proofs.SeatLemmas.{set_views, set_tables}
use Rattle.zy_park.proofs.bells.ringing.rest_at.Goals as goal

pub returns-clause-bells : goal.returns-clause-bells
returns-clause-bells g c =
    let near = slice_get_within (tables_of c.args.seats.now.items) c.args.core c.args.sleeper.now c.requires.own in
    let count = length-map c.args.seats.now.items (λ (s : Seated). s.table) in
    rw c.rest.ensures.value (set_tables (takes g.J.Lent.lent c.index_mut.result.now.view) c.args.seats.now.items c.args.core c.index_mut.result.now
    (slice_get_read c.args.seats.now.items _ c.args.core c.index_mut.result.now refl (omega arith) c.index_mut.ensures.value))

pub returns-clause-value : goal.returns-clause-value
returns-clause-value g c =
    let near = slice_get_within (tables_of c.args.seats.now.items) c.args.core c.args.sleeper.now c.requires.own in
    let count = length-map c.args.seats.now.items (λ (s : Seated). s.table) in
    rw c.rest.ensures.value (set_views (takes g.J.Lent.lent) c.args.seats.now.items c.args.core c.index_mut.result.now
    (slice_get_read c.args.seats.now.items _ c.args.core c.index_mut.result.now refl (omega arith) c.index_mut.ensures.value))
