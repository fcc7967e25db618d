use Rattle.std.proofs.Common.{refl, arith}
use Rattle.std.proofs.lemmas.Option.{slice_get_read}
use Rattle.zy_park.specs.Token.{rings}
use Rattle.zy_park.proofs.SeatLemmas.{set_views, set_tables, table_count}
use Rattle.zy_park.proofs.bells.ringing.ring_at.Goals as goal

pub returns-clause-bells : goal.returns-clause-bells
returns-clause-bells c =
    let count = table_count c.args.seats.now.items c.args.bells.now.items c.requires.bells in let near = c.requires.core in
    rw c.ring.ensures.value (set_tables (rings c.index_mut.result.now.view) c.args.seats.now.items c.args.core c.index_mut.result.now
    (slice_get_read c.args.seats.now.items _ c.args.core c.index_mut.result.now refl (omega arith) c.index_mut.ensures.value))

pub returns-clause-value : goal.returns-clause-value
returns-clause-value c =
    let count = table_count c.args.seats.now.items c.args.bells.now.items c.requires.bells in let near = c.requires.core in
    rw c.ring.ensures.value (set_views rings c.args.seats.now.items c.args.core c.index_mut.result.now
    (slice_get_read c.args.seats.now.items _ c.args.core c.index_mut.result.now refl (omega arith) c.index_mut.ensures.value))
