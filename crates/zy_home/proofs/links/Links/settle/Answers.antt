use Rattle.std.proofs.Common.{[]}
use Rattle.zy_home.specs.Links.{homed}
use Rattle.zy_home.proofs.SettleLemmas.{out_sound, out_there, settling}
use Rattle.zy_home.proofs.links.Links.settle.Goals as goal

pub returns-clause-settled : goal.returns-clause-settled
returns-clause-settled g c =
    let h = homed c.args.pass.now c.args.slots.now.items c.args.self.now in let o = c.requires.out in
    (settling h c.args.place _ _ _ _ (out_there h c.args.place c.args.block _ o c.index_mut-2.ensures.value) c.settle_at.ensures.same.conn o.hand c.args.block c.requires.live c.settle_at.result c.settle_at.ensures.ok c.settle_at.ensures.err _ c.settle_at.ensures.refused).settled

pub returns-clause-stands : goal.returns-clause-stands
returns-clause-stands g c =
    let h = homed c.args.pass.now c.args.slots.now.items c.args.self.now in let o = c.requires.out in
    (settling h c.args.place _ _ _ _ (out_there h c.args.place c.args.block _ o c.index_mut-2.ensures.value) c.settle_at.ensures.same.conn o.hand c.args.block c.requires.live c.settle_at.result c.settle_at.ensures.ok c.settle_at.ensures.err _ c.settle_at.ensures.refused).stands c.settle_at.ensures.stands

pub returns-clause-sound : goal.returns-clause-sound
returns-clause-sound g c =
    let h = homed c.args.pass.now c.args.slots.now.items c.args.self.now in let o = c.requires.out in
    (settling h c.args.place _ _ _ _ (out_there h c.args.place c.args.block _ o c.index_mut-2.ensures.value) c.settle_at.ensures.same.conn o.hand c.args.block c.requires.live c.settle_at.result c.settle_at.ensures.ok c.settle_at.ensures.err _ c.settle_at.ensures.refused).sound [] (out_sound h c.args.place c.args.block o c.requires.sound)

pub returns-clause-same : goal.returns-clause-same
returns-clause-same g c =
    let h = homed c.args.pass.now c.args.slots.now.items c.args.self.now in let o = c.requires.out in
    (settling h c.args.place _ _ _ _ (out_there h c.args.place c.args.block _ o c.index_mut-2.ensures.value) c.settle_at.ensures.same.conn o.hand c.args.block c.requires.live c.settle_at.result c.settle_at.ensures.ok c.settle_at.ensures.err _ c.settle_at.ensures.refused).same
