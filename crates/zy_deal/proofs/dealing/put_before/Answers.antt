use Rattle.std.proofs.Common.{◌+◌, ◌-◌, arith}
use Rattle.zy_deal.proofs.DealLemmas.{fewer, room_without, last_has}
use Rattle.zy_deal.proofs.dealing.put_before.Goals as goal

pub prepend-requires : goal.prepend-requires
prepend-requires g c =
    let few = last_has 1 c.len.result c.args.groups.now.items c.remove-group.result (omega (arith, c.requires.some, c.args.groups.now.ok.0)) (omega (arith, c.len.ensures, c.args.groups.now.ok.0)) c.remove-group.ensures.value c.requires.room in record { room = omega (arith, few) }

pub returns-clause-room : goal.returns-clause-room
returns-clause-room g c = λ n room.
    let few = last_has (n + 1) c.len.result c.args.groups.now.items c.remove-group.result (omega (arith, c.requires.some, c.args.groups.now.ok.0)) (omega (arith, c.len.ensures, c.args.groups.now.ok.0)) c.remove-group.ensures.value room in
    rw (c.prepend-2.ensures.items, c.remove-group.ensures.items) (
      omega (arith, few, c.prepend.ensures.len, c.prepend.ensures.capacity),
      room_without n c.args.groups.now.items (c.len.result - 1) (fewer n c.args.groups.now.items room),
    )
