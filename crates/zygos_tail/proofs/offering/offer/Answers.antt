use Rattle.std.proofs.Common.{◌≡◌, List, Some, slice_get}
use Rattle.zy_rx.specs.Ring.{Offering}
use Rattle.zy_feed.proofs.InletLemmas.{map_none, map_some, inlet_at, same_rings, same_sent, one_offered, no_room}
use Rattle.zygos_tail.proofs.offering.offer.Goals as goal

pub returns : goal.returns
returns c =
    let inlets : List Offering = c.args.inlets.now.items in
    let at : slice_get inlets c.args.core ≡ Some c.index_mut.result.now = inlet_at inlets c.args.core c.index_mut.result.now c.requires.within c.index_mut.ensures.value in
    record {
      ok = map_none c.offer.result (one_offered inlets c.args.core c.args.item c.index_mut.result.now c.offer.new.self at) c.offer.ensures.ok;
      returned = map_some c.offer.result (λ back r. r.0) c.offer.ensures.returned;
      kept = map_some c.offer.result (λ back r. same_sent inlets c.args.core c.index_mut.result.now c.offer.new.self at r.1) c.offer.ensures.returned;
      full = map_some c.offer.result (λ back r. no_room inlets c.args.core c.offer.new.self c.requires.within r) c.offer.ensures.full;
      rings = same_rings inlets c.args.core c.index_mut.result.now c.offer.new.self at c.offer.ensures.kept;
    }
