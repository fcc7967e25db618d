use Rattle.std.proofs.Common.{rules, ap, ◌∙◌}
use Rattle.zy_shuffle.proofs.OpenLemmas.{names_as, opens_as}
use Rattle.zy_shuffle.proofs.PassLemmas.{home_named, hand_named}
use Rattle.zy_shuffle.proofs.ring.Ring.new.Goals as goal

pub vacant-made-requires : goal.vacant-made-requires
vacant-made-requires g c = opens_as g.T.Marked.mark g.T.Marked.label c.args.places _ (c.as_slice-cells.ensures.value ∙ c.in-Ok.ensures.items_if_clones_equal (λ y e. e))

pub load-requires : goal.load-requires
load-requires g c = let e = c.in-Ok-made.ensures in (e.2, search rules, names_as g.T.Marked.mark g.T.Marked.label _ _ g.L.Label.label _ e.4)

pub invariant_of-result : goal.invariant_of-result
invariant_of-result g c = let t = ap (λ z. z.slots) c.in-Ok-made.ensures.2 in home_named g.L.Label.label _ _ _ c.load.new.seat.me (λ i. c.in-Ok-made.table.shared.table_id.slots) (ap (λ z. z.slots) c.load.ensures.0 ∙ t) c.load.ensures.2

pub returns-clause-hand : goal.returns-clause-hand
returns-clause-hand g c = hand_named g.L.Label.label _ c.args.places c.load.new.seat.me c.load.ensures.2 c.in-Ok-made.ensures.1
