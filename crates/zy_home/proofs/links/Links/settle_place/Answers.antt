use Rattle.std.proofs.Common.{None, Some, sym, ap, ◌∙◌, subst, arith}
use Rattle.zy_home.specs.Home.{IsSoundBut}
use Rattle.zy_home.specs.Links.{homed}
use Rattle.zy_home.proofs.SettleLemmas.{place_back, place_empty, place_settled, rest_none, touched_due, touched_near, touched_settling, touched_slot}
use Rattle.zy_home.proofs.links.Links.settle_place.Goals as goal

pub index_mut-requires : goal.index_mut-requires
index_mut-requires c = let near = (touched_near (homed c.args.pass.now c.args.slots.now.items c.args.self.now) c.args.place c.requires.live c.requires.left).0 in omega arith

pub index_mut-requires-2 : goal.index_mut-requires-2
index_mut-requires-2 c = let near = (touched_near (homed c.args.pass.now c.args.slots.now.items c.args.self.now) c.args.place c.requires.live c.requires.left).1 in omega arith

pub overflow_cast-place : goal.overflow_cast-place
overflow_cast-place c =
    let near = (touched_near (homed c.args.pass.now c.args.slots.now.items c.args.self.now) c.args.place c.requires.live c.requires.left).1 in
    let places = sym c.places-places.ensures.value ∙ c.places-places.ensures.count ∙ ap (λ z. z.slots) (sym c.requires.table) ∙ c.requires.left.1.places in
    let value = c.places-places.ensures.value in
    let limit = c.places-places.ensures.limit in omega arith

-- the slot is empty
pub returns-in_default-clause-ok : goal.returns-in_default-clause-ok
returns-in_default-clause-ok c =
    let h = homed c.args.pass.now c.args.slots.now.items c.args.self.now in
    let none = sym c.replace.ensures.value ∙ c.in_default.is in record {
      slot = None;
      there = touched_slot h c.args.place c.requires.live c.requires.left _ _ c.index_mut.ensures.value c.index_mut-2.ensures.value ∙ ap Some none;
      steps = place_empty h c.args.place c.requires.live c.requires.left _ _ c.index_mut.ensures.value c.index_mut-2.ensures.value c.replace.new.dest (c.replace.ensures.after ∙ sym none);
    }

pub returns-in_default-clause-sound : goal.returns-in_default-clause-sound
returns-in_default-clause-sound c rest k =
    let h = homed c.args.pass.now c.args.slots.now.items c.args.self.now in
    let none = sym c.replace.ensures.value ∙ c.in_default.is in
    subst (IsSoundBut rest) (sym (place_empty h c.args.place c.requires.live c.requires.left _ _ c.index_mut.ensures.value c.index_mut-2.ensures.value c.replace.new.dest (c.replace.ensures.after ∙ sym none)))
    (rest_none h c.args.place rest (touched_slot h c.args.place c.requires.live c.requires.left _ _ c.index_mut.ensures.value c.index_mut-2.ensures.value ∙ ap Some none) k)

-- the block may be settled
pub settle_at-requires-clause-due : goal.settle_at-requires-clause-due
settle_at-requires-clause-due c = touched_due (homed c.args.pass.now c.args.slots.now.items c.args.self.now) c.args.place c.requires.live c.requires.left _ _ c.index_mut.ensures.value c.index_mut-2.ensures.value c.in-Some.block (sym c.replace.ensures.value ∙ c.in-Some.is)

-- it was settled, or put back
pub returns-clause-ok : goal.returns-clause-ok
returns-clause-ok c = place_settled (homed c.args.pass.now c.args.slots.now.items c.args.self.now) c.args.place c.requires.live c.requires.left _ _ c.index_mut.ensures.value c.index_mut-2.ensures.value c.in-Some.block (sym c.replace.ensures.value ∙ c.in-Some.is) _ _ _ c.settle_at.ensures.same.conn c.settle_at.result c.settle_at.ensures.ok c.settle_at.ensures.err _ c.settle_at.ensures.refused c.settle_at.ensures.stands

pub returns-clause-err : goal.returns-clause-err
returns-clause-err c = place_back (homed c.args.pass.now c.args.slots.now.items c.args.self.now) c.args.place c.requires.live c.requires.left _ _ c.index_mut.ensures.value c.index_mut-2.ensures.value c.in-Some.block (sym c.replace.ensures.value ∙ c.in-Some.is) _ _ _ c.settle_at.ensures.same.conn c.settle_at.result c.settle_at.ensures.ok c.settle_at.ensures.err _ c.settle_at.ensures.refused

pub returns-clause-sound : goal.returns-clause-sound
returns-clause-sound c = (touched_settling (homed c.args.pass.now c.args.slots.now.items c.args.self.now) c.args.place c.requires.live c.requires.left _ _ c.index_mut.ensures.value c.index_mut-2.ensures.value c.in-Some.block (sym c.replace.ensures.value ∙ c.in-Some.is) _ _ _ c.settle_at.ensures.same.conn c.settle_at.result c.settle_at.ensures.ok c.settle_at.ensures.err _ c.settle_at.ensures.refused).sound

pub returns-clause-same : goal.returns-clause-same
returns-clause-same c = (touched_settling (homed c.args.pass.now c.args.slots.now.items c.args.self.now) c.args.place c.requires.live c.requires.left _ _ c.index_mut.ensures.value c.index_mut-2.ensures.value c.in-Some.block (sym c.replace.ensures.value ∙ c.in-Some.is) _ _ _ c.settle_at.ensures.same.conn c.settle_at.result c.settle_at.ensures.ok c.settle_at.ensures.err _ c.settle_at.ensures.refused).same
