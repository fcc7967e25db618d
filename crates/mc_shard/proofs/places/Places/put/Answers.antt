use Rattle.std.proofs.Common.{◌≡◌, slice_get}
use Rattle.std.specs.Prelude.{Some}
use Rattle.mc_shard.proofs.PlaceLemmas.{got_at}
use Rattle.mc_shard.proofs.TableLemmas.{slot_below, slot_inside, slot_table, slot_put, new_below, new_inside, new_table, new_put, asked_put}
use Rattle.mc_shard.proofs.places.Places.put.Goals as goal

-- ---- a slot of the key

pub replace-requires : goal.replace-requires
replace-requires c =
    let there : slice_get c.self.inside.lines.items c.line-at.result ≡ Some c.index_mut.result.now =
    got_at c.self.inside.lines.items c.line-at.result c.index_mut.result.now (slot_below c.self.inside.shift c.line-at.result c.self.inside.lines.items c.self.inside.tree.entries c.args.key.now c.args.self.now c.args.spot c.self.view_is c.line-at.ensures.value c.requires.room c.in-Slot.slot c.in-Slot.is) c.index_mut.ensures.value in
    record { within = slot_inside c.self.inside.shift c.line-at.result c.self.inside.lines.items c.self.inside.tree.entries c.args.key.now c.args.self.now c.args.spot c.self.view_is c.line-at.ensures.value c.requires.room c.in-Slot.slot c.in-Slot.is c.index_mut.result.now there }

pub invariant_of-self : goal.invariant_of-self
invariant_of-self c =
    let there : slice_get c.self.inside.lines.items c.line-at.result ≡ Some c.index_mut.result.now =
    got_at c.self.inside.lines.items c.line-at.result c.index_mut.result.now (slot_below c.self.inside.shift c.line-at.result c.self.inside.lines.items c.self.inside.tree.entries c.args.key.now c.args.self.now c.args.spot c.self.view_is c.line-at.ensures.value c.requires.room c.in-Slot.slot c.in-Slot.is) c.index_mut.ensures.value in
    slot_table c.self.inside.shift c.line-at.result c.self.inside.lines.items c.index_mut.result.now c.replace.new.self c.self.inside.tree.entries c.args.key.now c.args.place
    c.self.invariant c.line-at.ensures.value there c.replace.ensures.mark c.in-Slot.slot (slot_inside c.self.inside.shift c.line-at.result c.self.inside.lines.items c.self.inside.tree.entries c.args.key.now c.args.self.now c.args.spot c.self.view_is c.line-at.ensures.value c.requires.room c.in-Slot.slot c.in-Slot.is c.index_mut.result.now there) c.replace.ensures.slots

pub returns-in-Slot : goal.returns-in-Slot
returns-in-Slot c =
    let there : slice_get c.self.inside.lines.items c.line-at.result ≡ Some c.index_mut.result.now =
    got_at c.self.inside.lines.items c.line-at.result c.index_mut.result.now (slot_below c.self.inside.shift c.line-at.result c.self.inside.lines.items c.self.inside.tree.entries c.args.key.now c.args.self.now c.args.spot c.self.view_is c.line-at.ensures.value c.requires.room c.in-Slot.slot c.in-Slot.is) c.index_mut.ensures.value in
    rw (← c.self.view_is, c.in-Slot.is) (record {
      value = slot_put c.self.inside.shift c.line-at.result c.self.inside.lines.items c.index_mut.result.now c.replace.new.self c.self.inside.tree.entries c.args.key.now c.args.place
          c.self.invariant c.line-at.ensures.value there c.replace.ensures.mark c.in-Slot.slot (slot_inside c.self.inside.shift c.line-at.result c.self.inside.lines.items c.self.inside.tree.entries c.args.key.now c.args.self.now c.args.spot c.self.view_is c.line-at.ensures.value c.requires.room c.in-Slot.slot c.in-Slot.is c.index_mut.result.now there) c.replace.ensures.slots;
    })

-- ---- a key of the tree

pub returns-in-Tree : goal.returns-in-Tree
returns-in-Tree c =
    rw (← c.self.view_is, c.in-Tree.is) (record {
      value = asked_put c.self.inside.shift c.self.inside.lines.items c.self.inside.tree.entries c.replace_in.new.tree.entries c.args.key.now c.args.place c.self.invariant
          c.replace_in.result c.replace_in.ensures.old c.replace_in.ensures.value c.replace_in.ensures.none;
    })

-- ---- a new key

pub push-requires : goal.push-requires
push-requires c =
    let there : slice_get c.self.inside.lines.items c.line-at.result ≡ Some c.index_mut-in-New.result.now =
    got_at c.self.inside.lines.items c.line-at.result c.index_mut-in-New.result.now (new_below c.self.inside.shift c.line-at.result c.self.inside.lines.items c.self.inside.tree.entries c.args.key.now c.args.self.now c.args.spot c.self.view_is c.line-at.ensures.value c.requires.room c.in-New.is) c.index_mut-in-New.ensures.value in
    record { room = new_inside c.self.inside.shift c.line-at.result c.self.inside.lines.items c.self.inside.tree.entries c.args.key.now c.args.self.now c.args.spot c.self.view_is c.line-at.ensures.value c.requires.room c.in-New.is c.index_mut-in-New.result.now there }

pub invariant_of-self-in-New : goal.invariant_of-self-in-New
invariant_of-self-in-New c =
    let there : slice_get c.self.inside.lines.items c.line-at.result ≡ Some c.index_mut-in-New.result.now =
    got_at c.self.inside.lines.items c.line-at.result c.index_mut-in-New.result.now (new_below c.self.inside.shift c.line-at.result c.self.inside.lines.items c.self.inside.tree.entries c.args.key.now c.args.self.now c.args.spot c.self.view_is c.line-at.ensures.value c.requires.room c.in-New.is) c.index_mut-in-New.ensures.value in
    new_table c.self.inside.shift c.line-at.result c.self.inside.lines.items c.index_mut-in-New.result.now c.push.new.self c.self.inside.tree.entries c.args.key.now c.args.place
    c.self.invariant c.line-at.ensures.value there c.push.ensures.mark c.hash-hash.result c.hash-hash.ensures.value c.push.ensures.slots

pub returns-in-New : goal.returns-in-New
returns-in-New c =
    let there : slice_get c.self.inside.lines.items c.line-at.result ≡ Some c.index_mut-in-New.result.now =
    got_at c.self.inside.lines.items c.line-at.result c.index_mut-in-New.result.now (new_below c.self.inside.shift c.line-at.result c.self.inside.lines.items c.self.inside.tree.entries c.args.key.now c.args.self.now c.args.spot c.self.view_is c.line-at.ensures.value c.requires.room c.in-New.is) c.index_mut-in-New.ensures.value in
    rw (← c.self.view_is, c.in-New.is) (record {
      value = new_put c.self.inside.shift c.line-at.result c.self.inside.lines.items c.index_mut-in-New.result.now c.push.new.self c.self.inside.tree.entries c.args.key.now c.args.place
          c.self.invariant c.line-at.ensures.value there c.push.ensures.mark c.hash-hash.result c.hash-hash.ensures.value c.push.ensures.slots;
    })
