use Rattle.std.proofs.Common.{◌<◌, sym, ap, ◌∙◌, subst, arith}
use Rattle.zy_steal.specs.Order.{other_core}
use Rattle.zy_steal.specs.Steal.{Thief, TakesFrom, InTurn}
use Rattle.zy_steal.proofs.IdleLemmas.{takes_within}
use Rattle.zy_steal.proofs.LookLemmas.{all_looked_over}
use Rattle.zy_steal.proofs.TurnLemmas.{takes_from, in_turn}
use Rattle.zy_steal.proofs.victims.Victims.steal_into.Goals as goal

pub returns-clause-taken : goal.returns-clause-taken
returns-clause-taken g c =
    let core = ap (λ (h : Thief). h.core) c.self.view_is ∙ sym c.requires.core in
    subst (λ k. TakesFrom g.T.Marked.mark g.T.Marked.label c.args.passes.now c.turn.new.self k c.in-Some.taken.place c.in-Some.taken.block) (sym (c.other_core.ensures.value ∙ ap (λ k. other_core k c.in-Some.taken.at) core))
    (takes_from g.T.Marked.mark g.T.Marked.label c.args.passes.now c.turn.new.self c.first-start.result c.in-Some.taken c.in-Some.ensures.value)

pub returns-clause-order : goal.returns-clause-order
returns-clause-order g c =
    let core = ap (λ (h : Thief). h.core) c.self.view_is ∙ sym c.requires.core in
    subst (InTurn c.args.self.now c.args.passes.now c.turn.new.self) (sym (c.other_core.ensures.value ∙ ap (λ k. other_core k c.in-Some.taken.at) core))
    (in_turn g.T.Marked.mark g.T.Marked.label c.args.self.now c.args.passes.now c.turn.new.self c.first-start.result c.in-Some.taken (sym c.requires.core) (subst (λ (h : Thief). h.core < h.cores) c.self.view_is c.self.invariant.0)
    (c.requires.within.count ∙ c.requires.cores) c.first-start.ensures.value c.in-Some.ensures.value)

pub returns-clause-within : goal.returns-clause-within
returns-clause-within g c =
    takes_within g.T.Marked.mark g.T.Marked.label c.args.rings.now c.args.passes.now c.turn.new.self (other_core c.args.passes.now.core c.in-Some.taken.at) c.in-Some.taken.place c.in-Some.taken.block c.turn.ensures.kept
    (takes_from g.T.Marked.mark g.T.Marked.label c.args.passes.now c.turn.new.self c.first-start.result c.in-Some.taken c.in-Some.ensures.value) c.requires.within

pub returns-in_default-clause-none : goal.returns-in_default-clause-none
returns-in_default-clause-none g c = all_looked_over c.args.passes.now c.turn.new.self c.args.looks.now c.turn.new.looks (let w = c.requires.within in let n = w.count in let k = w.core in omega arith) c.in_default.ensures.value
