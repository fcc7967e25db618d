use Rattle.std.proofs.Common.{get_or, refl, sym, arith, rules}
use Rattle.mc_meta.proofs.RoomLemmas.{room_for, room_found}
use Rattle.mc_meta.proofs.flags.with_flag.Goals as goal

pub push-requires : goal.push-requires
push-requires c = record { room = room_for c.args.listed.now c.args.flags (get_or c.args.word.now 0 0) c.requires.room (search rules) (sym c.if-has.ensures.value) }

pub with_token-requires : goal.with_token-requires
with_token-requires c =
    let room = room_for c.args.listed.now c.args.flags (get_or c.args.word.now 0 0) c.requires.room (search rules) (sym c.if-has.ensures.value) in
    record { room = omega (arith, room, c.requires.room.marks) }

pub returns-clause-room : goal.returns-clause-room
returns-clause-room c =
    room_found c.args.listed.now c.args.flags _ (get_or c.args.word.now 0 0) c.requires.room (search rules) (sym c.if-has.ensures.value)
    c.push.ensures.value refl c.with_token.result c.with_token.ensures.room
