use Rattle.std.proofs.Common.{refl, arith}
use Rattle.zy_home.specs.Links.{homed}
use Rattle.zy_home.proofs.CutLemmas.{cut_conns, cut_left, cut_near, cut_own, cut_slot, cut_there, cut_value}
use Rattle.zy_home.proofs.links.Links.cut_for.Goals as goal

pub index-requires : goal.index-requires
index-requires c = let near = (cut_near c.args.at c.args.item c.args.slots.now.items c.args.self.now c.requires.long c.requires.comes).0 in omega arith

pub index_mut-requires : goal.index_mut-requires
index_mut-requires c = let near = (cut_near c.args.at c.args.item c.args.slots.now.items c.args.self.now c.requires.long c.requires.comes).1 in omega arith

pub cut_at-requires-clause-own : goal.cut_at-requires-clause-own
cut_at-requires-clause-own c = cut_own c.args.at c.args.item c.args.slots.now.items c.args.self.now c.requires.long c.requires.comes c.index_mut.result.now c.index_mut.ensures.value

pub returns-clause-value : goal.returns-clause-value
returns-clause-value c = cut_value c.args.at c.args.item c.args.slots.now.items c.args.self.now c.requires.long c.requires.comes c.index_mut.result.now c.index_mut.ensures.value c.requires.own c.index.result.now c.index.ensures c.cut_at.new.link c.cut_at.ensures.due _ c.cut_at.result c.cut_at.ensures.takes c.cut_at.ensures.away

pub returns-clause-sound : goal.returns-clause-sound
returns-clause-sound c pass left k =
    let there = cut_there c.args.at c.args.item c.args.slots.now.items c.args.self.now c.requires.long c.requires.comes c.index_mut.result.now c.index_mut.ensures.value in
    let slot = cut_slot c.args.at c.args.item c.args.slots.now.items c.args.self.now c.requires.long c.requires.comes c.index_mut.result.now c.index_mut.ensures.value c.index.result.now c.index.ensures in
    cut_left (homed pass c.args.slots.now.items c.args.self.now) c.requires.live c.args.at c.index_mut.result.now c.index.result.now there slot c.cut_at.new.link c.cut_at.ensures.due left k c.cut_at.result c.cut_at.ensures.idle _ c.cut_at.ensures.refused

pub returns-clause-same : goal.returns-clause-same
returns-clause-same c = record { share = refl; conns = cut_conns c.args.at c.args.item c.args.slots.now.items c.args.self.now c.requires.long c.requires.comes c.index_mut.result.now c.index_mut.ensures.value c.cut_at.new.link c.cut_at.ensures.due }
