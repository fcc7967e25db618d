use Rattle.std.proofs.Common.{[]}
use Rattle.std.proofs.lemmas.Result.{on_ok_weaker}
use Rattle.zy_home.specs.Links.{homed}
use Rattle.zy_home.proofs.CutLemmas.{comes_to, cut_near}
use Rattle.zy_home.proofs.HomeLemmas.{forwards_none, one_forwards, one_stands}
use Rattle.zy_home.proofs.ReceiveLemmas.{comes_not_others, more_past}
use Rattle.zy_home.proofs.TurnLemmas.{sound_left}
use Rattle.zy_home.proofs.home.Home.receive.Goals as goal

-- the item is dropped, or the end
pub returns-in_default-clause-stands : goal.returns-in_default-clause-stands
returns-in_default-clause-stands c = rw (← c.self.view_is, c.ended_by-self-inside.ensures.value) (more_past _ c.args.item (λ p to. c.in_default.ensures.none p (record { live = to.live; link = to.link; there = to.there; own = to.own })))

pub returns-in_default-clause-forwards : goal.returns-in_default-clause-forwards
returns-in_default-clause-forwards c = rw (← c.self.view_is) (forwards_none _ _ c.args.item (λ p to. c.in_default.ensures.none p (record { live = to.live; link = to.link; there = to.there; own = to.own })))

-- memory was refused when it was cut
pub returns-in_err-cut_for-clause-others : goal.returns-in_err-cut_for-clause-others
returns-in_err-cut_for-clause-others c = rw (← c.self.view_is) (λ others. absurd (comes_not_others (homed c.self.inside.pass c.self.inside.blocks.items c.self.inside.links) c.self.invariant.conns c.in-Some.at c.args.item (comes_to _ _ c.self.inside.links _ _ c.in-Some.ensures.some) others))

-- it was cut, and then settled or refused memory
pub settle_place-requires-clause-left : goal.settle_place-requires-clause-left
settle_place-requires-clause-left c = ([], sound_left _ c.in-Some.at _ (cut_near c.in-Some.at c.args.item c.self.inside.blocks.items c.self.inside.links c.self.invariant.long c.in-Some.ensures.some).0 (c.in_ok-cut_for.ensures.sound c.self.inside.pass [] c.self.invariant))

pub invariant_of-self-2 : goal.invariant_of-self-2
invariant_of-self-2 c = c.settle_place.ensures.sound [] (sound_left _ c.in-Some.at _ (cut_near c.in-Some.at c.args.item c.self.inside.blocks.items c.self.inside.links c.self.invariant.long c.in-Some.ensures.some).0 (c.in_ok-cut_for.ensures.sound c.self.inside.pass [] c.self.invariant))

pub returns-clause-stands : goal.returns-clause-stands
returns-clause-stands c = rw (← c.self.view_is) (on_ok_weaker c.settle_place.result (one_stands _ _ _ _ c.args.item (c.in_ok-cut_for.ensures.value c.self.inside.pass)) c.settle_place.ensures.ok)

pub returns-clause-forwards : goal.returns-clause-forwards
returns-clause-forwards c = rw (← c.self.view_is) (on_ok_weaker c.settle_place.result (λ at. one_forwards _ _ _ _ c.args.item (c.in_ok-cut_for.ensures.value c.self.inside.pass) at c.self.invariant.conns (comes_to _ _ c.self.inside.links _ _ c.in-Some.ensures.some)) c.settle_place.ensures.ok)

pub returns-clause-others : goal.returns-clause-others
returns-clause-others c = rw (← c.self.view_is) (λ others. absurd (comes_not_others (homed c.self.inside.pass c.self.inside.blocks.items c.self.inside.links) c.self.invariant.conns c.in-Some.at c.args.item (comes_to _ _ c.self.inside.links _ _ c.in-Some.ensures.some) others))
