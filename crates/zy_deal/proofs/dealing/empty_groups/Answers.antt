use Rattle.std.proofs.Common.{arith}
use Rattle.zy_deal.proofs.DealLemmas.{room_last, empty_last}
use Rattle.zy_deal.proofs.dealing.empty_groups.Goals as goal

pub loop-preserved : goal.loop-preserved
loop-preserved g c =
    let new = c.push_reserved.ensures in
    let inv = c.loop.invariant in
    let group = c.in_ok-group.ensures in (
      omega (arith, new.len, inv.0),
      omega (arith, new.capacity, inv.1),
      rw new.items (room_last c.args.room c.loop.made.items c.in_ok-group.group inv.2 (omega (arith, group.len, group.capacity))),
      rw new.items (empty_last c.loop.made.items c.in_ok-group.group inv.3 group.items),
    )
