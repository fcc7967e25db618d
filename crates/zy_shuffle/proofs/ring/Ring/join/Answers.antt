use Rattle.std.proofs.Common.{rules, ap, ◌∙◌, arith}
use Rattle.zy_shuffle.proofs.GiveLemmas.{joins_as}
use Rattle.zy_shuffle.specs.Hand.{emptied}
use Rattle.zy_shuffle.proofs.ring.Ring.join.Goals as goal

pub join_seat-requires : goal.join_seat-requires
join_seat-requires g c =
    let i = c.self.invariant in
    let empty = ap (λ v. v.hand) c.pass.view_is ∙ c.requires.empty in (
      search rules,
      search rules,
      c.pass.invariant.seat.0 ∙ ap emptied empty,
      omega arith,
      joins_as g.T.Marked.mark g.T.Marked.label _ _ _ _ _ c.home.inside.seat.me c.pass.inside.seat.me c.home.invariant c.pass.invariant.seat empty,
    )
