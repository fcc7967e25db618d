use Rattle.std.proofs.Common.{◌≡◌, ◌<◌, List, length, ap, Some, slice_get}
use Rattle.zy_rx.specs.Ring.{Offering}
use Rattle.zy_feed.proofs.InletLemmas.{inlet_at, ring_within, same_rings, same_sent}
use Rattle.zygos_tail.proofs.offering.meet.Goals as goal

pub returns-clause-kept : goal.returns-clause-kept
returns-clause-kept c =
    let inlets : List Offering = c.args.inlets.now.items in
    let within : c.args.core < length inlets = ring_within inlets c.args.core c.args.outlet.now.ring c.requires.ring in
    let at : slice_get inlets c.args.core ≡ Some c.index_mut.result.now = inlet_at inlets c.args.core c.index_mut.result.now within c.index_mut.ensures.value in
    same_sent inlets c.args.core c.index_mut.result.now c.both_ends.new.inlet at (ap (λ (i : Offering). i.sent) c.both_ends.ensures.inlet)

pub returns-clause-rings : goal.returns-clause-rings
returns-clause-rings c =
    let inlets : List Offering = c.args.inlets.now.items in
    let within : c.args.core < length inlets = ring_within inlets c.args.core c.args.outlet.now.ring c.requires.ring in
    let at : slice_get inlets c.args.core ≡ Some c.index_mut.result.now = inlet_at inlets c.args.core c.index_mut.result.now within c.index_mut.ensures.value in
    same_rings inlets c.args.core c.index_mut.result.now c.both_ends.new.inlet at (ap (λ (i : Offering). i.ring) c.both_ends.ensures.inlet)
