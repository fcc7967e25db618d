use Rattle.std.proofs.Common.{rules, sym, ap, ◌∙◌, arith, refl}
use Rattle.zy_shuffle.proofs.ClaimLemmas.{claims_as, loads_cell_as, loads_tail_as, taken_slot}
use Rattle.zy_shuffle.proofs.LookLemmas.{loads_head}
use Rattle.zy_shuffle.proofs.ring.Ring.claim_at.Goals as goal

pub load-head-requires : goal.load-head-requires
load-head-requires g c = let e = ap (λ v. v.id) c.self.view_is in let i = c.self.invariant in (c.requires.within ∙ sym e, omega arith, loads_head g.T.Marked.mark g.T.Marked.label _ _ _ c.requires.active)

pub load-tail-requires : goal.load-tail-requires
load-tail-requires g c = let i = c.self.invariant in (search rules, omega arith, loads_tail_as g.T.Marked.mark g.T.Marked.label _ _ _ c.args.seat.now.me c.load-head.new.seat.me c.requires.active c.load-head.ensures.2)

pub load-place-requires : goal.load-place-requires
load-place-requires g c = let i = c.self.invariant in (
  search rules,
  search rules,
  loads_cell_as g.T.Marked.mark g.T.Marked.label _ _ _ _ _ _ c.args.seat.now.me c.load-head.new.seat.me c.load-tail.new.seat.me c.requires.active c.load-head.ensures.2 c.load-tail.ensures.2 c.if-tail-head.false i.0 refl,
)

pub compare_exchange-found-requires : goal.compare_exchange-found-requires
compare_exchange-found-requires g c = let i = c.self.invariant in (
  search rules,
  omega arith,
  claims_as g.T.Marked.mark g.T.Marked.label _ _ _ _ _ _ c.args.seat.now.me c.load-head.new.seat.me c.load-tail.new.seat.me c.load-place.new.seat.me c.requires.active c.load-head.ensures.2 c.load-tail.ensures.2.1 c.load-place.ensures.2,
)

pub exchange-requires : goal.exchange-requires
exchange-requires g c = (search rules, taken_slot g.T.Marked.mark g.T.Marked.label _ _ _ _ c.load-tail.new.seat.me c.load-place.new.seat.me c.compare_exchange-found.new.seat.me c.compare_exchange-found.ensures.2 c.if-found-head.false c.load-place.ensures.2)
