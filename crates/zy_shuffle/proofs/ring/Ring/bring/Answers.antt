use Rattle.std.proofs.Common.{rules, sym, ap, ◌∙◌, arith}
use Rattle.zy_shuffle.proofs.GiveLemmas.{brought_before, fronts_as}
use Rattle.zy_table.specs.Member.{is_in}
use Rattle.zy_shuffle.proofs.ring.Ring.bring.Goals as goal

pub load-requires : goal.load-requires
load-requires g c =
    let i = c.self.invariant in (
      search rules,
      omega arith,
      fronts_as g.T.Marked.mark g.T.Marked.label _ _ _ g.J.Placing.place c.args.seat.now.me c.requires.pass.seat (ap (λ p. is_in p c.args.seat.now.me.0.hand) (sym c.requires.picked) ∙ c.requires.hand),
    )

pub returns-then-first-place-clause-value : goal.returns-then-first-place-clause-value
returns-then-first-place-clause-value g c = brought_before g.T.Marked.mark g.T.Marked.label c.args.seat.now.table_id.slots c.args.place c.in-Some.first c.args.front c.args.seat.now.me c.requires.pass c.in-Some.is c.if-first-place.true
