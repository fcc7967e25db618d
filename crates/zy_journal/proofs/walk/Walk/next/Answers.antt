use Rattle.std.proofs.Common.{rules, ◌≡◌, []}
use Rattle.zy_journal.proofs.OrderLemmas.{empty_is}
use Rattle.zy_journal.proofs.MergedLemmas.{step_keeps, step_gives, step_ends, step_stays}
use Rattle.zy_journal.proofs.walk.Walk.next.Goals as goal

pub invariant_of-self-2 : goal.invariant_of-self-2
invariant_of-self-2 c =
    let none : c.self.inside.listed.now ≡ [] = empty_is c.self.inside.listed.now (search rules) in
    step_keeps c.self.inside.listed.now c.args.self.now c.self.inside.rests c.next.new.self none c.self.view_is c.self.invariant c.next.result c.next.ensures.some c.next.ensures.kept

pub returns-clause-some : goal.returns-clause-some
returns-clause-some c =
    let none : c.self.inside.listed.now ≡ [] = empty_is c.self.inside.listed.now (search rules) in
    step_gives c.self.inside.listed.now c.args.self.now c.self.inside.rests c.next.new.self none c.self.view_is c.self.invariant c.next.result c.next.ensures.some

pub returns-clause-none : goal.returns-clause-none
returns-clause-none c =
    let none : c.self.inside.listed.now ≡ [] = empty_is c.self.inside.listed.now (search rules) in
    step_ends c.self.inside.listed.now c.args.self.now c.self.inside.rests c.next.new.self none c.self.view_is c.self.invariant c.next.result c.next.ensures.none

pub returns-clause-kept : goal.returns-clause-kept
returns-clause-kept c =
    let none : c.self.inside.listed.now ≡ [] = empty_is c.self.inside.listed.now (search rules) in
    step_stays c.self.inside.listed.now c.args.self.now c.self.inside.rests c.next.new.self none c.self.view_is c.self.invariant c.next.result c.next.ensures.none c.next.ensures.kept
