use Rattle.std.proofs.Common.{◌≡◌, length, ap, subst, arith}
use Rattle.zy_steal.specs.Steal.{PassList}
use Rattle.zy_steal.specs.Range.{RangesTo, StopsInTurn, TurnsTo}
use Rattle.zy_steal.proofs.TurnLemmas.{stops_early, turns_late}
use Rattle.zy_steal.proofs.passes.Passes.turn.Goals as goal

pub returns-in-Some-clause-value : goal.returns-in-Some-clause-value
returns-in-Some-clause-value g c =
    let whole : c.len-count.result ≡ length c.args.self.now.items = (let v = ap (λ (p : PassList g.row.T.Denot). length p.items) c.self.view_is in omega (arith, c.len-count.ensures)) in
    subst (λ n. StopsInTurn g.T.Marked.mark g.T.Marked.label c.args.self.now.core c.args.self.now.items c.range.new.self.items c.args.start n c.in-Some.taken) whole
    (stops_early g.T.Marked.mark g.T.Marked.label c.args.self.now.core c.args.self.now.items c.range.new.self.items c.args.looks.now c.range.new.looks c.args.start c.len-count.result c.in-Some.taken c.in-Some.ensures.value)

pub returns-in-None-clause-value : goal.returns-in-None-clause-value
returns-in-None-clause-value g c =
    let whole : c.len-count.result ≡ length c.args.self.now.items = (let v = ap (λ (p : PassList g.row.T.Denot). length p.items) c.self.view_is in omega (arith, c.len-count.ensures)) in
    subst (λ n. TurnsTo g.T.Marked.mark g.T.Marked.label c.args.self.now.core c.args.self.now.items c.range-in-None.new.self.items c.args.looks.now c.range-in-None.new.looks c.args.start n c.range-in-None.result) whole
    (turns_late g.T.Marked.mark g.T.Marked.label c.args.self.now.core c.args.self.now.items c.range.new.self.items c.range-in-None.new.self.items c.args.looks.now c.range.new.looks c.range-in-None.new.looks c.args.start c.len-count.result c.range-in-None.result
    (let s = c.requires.start in omega arith) whole c.in-None.ensures.value
    (subst (λ k. RangesTo g.T.Marked.mark g.T.Marked.label k c.range.new.self.items c.range-in-None.new.self.items c.range.new.looks c.range-in-None.new.looks 0 c.args.start c.range-in-None.result) c.range.ensures.kept c.range-in-None.ensures.value))
