use Rattle.zy_steal.proofs.SeatLemmas.{asks_seen, gives_to}
use Rattle.zy_steal.proofs.passes.Passes.give_back.Goals as goal

pub give_back-requires-clause-within : goal.give_back-requires-clause-within
give_back-requires-clause-within g c =
    let asks = asks_seen g.T.Marked.mark g.T.Marked.label c.args.rings.now c.self.inside.core c.args.victim c.number_of-at.result c.args.place c.args.block c.self.inside.items.items c.index_mut.result.now c.ring-ring.result.now c.args.self.now
    c.self.view_is c.requires.within c.requires.other.1 c.requires.holds c.number_of-at.ensures.value c.index_mut.ensures.value c.ring-ring.ensures.value in
    asks.0

pub give_back-requires-clause-hand : goal.give_back-requires-clause-hand
give_back-requires-clause-hand g c =
    let asks = asks_seen g.T.Marked.mark g.T.Marked.label c.args.rings.now c.self.inside.core c.args.victim c.number_of-at.result c.args.place c.args.block c.self.inside.items.items c.index_mut.result.now c.ring-ring.result.now c.args.self.now
    c.self.view_is c.requires.within c.requires.other.1 c.requires.holds c.number_of-at.ensures.value c.index_mut.ensures.value c.ring-ring.ensures.value in
    asks.1.hand

pub give_back-requires-clause-label : goal.give_back-requires-clause-label
give_back-requires-clause-label g c =
    let asks = asks_seen g.T.Marked.mark g.T.Marked.label c.args.rings.now c.self.inside.core c.args.victim c.number_of-at.result c.args.place c.args.block c.self.inside.items.items c.index_mut.result.now c.ring-ring.result.now c.args.self.now
    c.self.view_is c.requires.within c.requires.other.1 c.requires.holds c.number_of-at.ensures.value c.index_mut.ensures.value c.ring-ring.ensures.value in
    asks.1.labelled

pub give_back-requires-clause-mark : goal.give_back-requires-clause-mark
give_back-requires-clause-mark g c =
    let asks = asks_seen g.T.Marked.mark g.T.Marked.label c.args.rings.now c.self.inside.core c.args.victim c.number_of-at.result c.args.place c.args.block c.self.inside.items.items c.index_mut.result.now c.ring-ring.result.now c.args.self.now
    c.self.view_is c.requires.within c.requires.other.1 c.requires.holds c.number_of-at.ensures.value c.index_mut.ensures.value c.ring-ring.ensures.value in
    asks.1.kept

pub returns-clause-value : goal.returns-clause-value
returns-clause-value g c =
    let asks = asks_seen g.T.Marked.mark g.T.Marked.label c.args.rings.now c.self.inside.core c.args.victim c.number_of-at.result c.args.place c.args.block c.self.inside.items.items c.index_mut.result.now c.ring-ring.result.now c.args.self.now
    c.self.view_is c.requires.within c.requires.other.1 c.requires.holds c.number_of-at.ensures.value c.index_mut.ensures.value c.ring-ring.ensures.value in
    rw (← c.self.view_is) (gives_to c.self.inside.core c.args.victim c.number_of-at.result c.args.place c.args.block c.self.inside.items.items c.index_mut.result.now c.give_back.new.pass c.give_back.new.pass.trace c.number_of-at.ensures.value asks.2 c.give_back.ensures.value)
