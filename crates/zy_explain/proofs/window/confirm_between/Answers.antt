use Rattle.std.proofs.Common.{◌≡◌, true, Option, IfSome, subst, arith}
use Rattle.zy_confirm.specs.declared.store.Store.{Store}
use Rattle.zy_items.specs.Standing.{standing_of}
use Rattle.zy_explain.specs.declared.confirming.Followed.{Followed}
use Rattle.zy_explain.specs.Beginning.{Begins}
use Rattle.zy_explain.specs.Ending.{EndsAs}
use Rattle.zy_explain.proofs.BetweenLemmas.{window}
use Rattle.zy_explain.proofs.window.confirm_between.Goals as goal

pub returns-in_ok-to-in-Ok-Some-clause-between : goal.returns-in_ok-to-in-Ok-Some-clause-between
returns-in_ok-to-in-Ok-Some-clause-between c count records hold =
    let rules = c.args.rules in
    let from = c.args.from.now in
    let sessions = c.args.sessions.now in
    let outputs = c.args.outputs.now.sessions in
    let is : c.may_follow.result ≡ true = let f = c.if-not-may_follow.false in grind (arith, f) in
    let begins = subst (λ (f : Option Store). IfSome f (Begins rules.shards (standing_of from))) c.in-Some.is c.in_ok-store.ensures.begins in
    let ends = subst (λ (f : Option Followed). IfSome f (λ e. EndsAs rules c.in-Ok.lasting sessions outputs c.in-Some.store e.state e.numbers)) c.in-Ok-Some.field-0-is c.in-Ok-Some.ensures.ends in
    window rules from sessions outputs c.in-Some.store c.in-Ok.lasting (c.may_follow.ensures.have is) begins c.in-Ok.ensures.union c.in-Ok-Some.field-0-0.state c.in-Ok-Some.field-0-0.numbers
    c.in_ok-to-in-Ok-Some.to ends c.in_ok-to-in-Ok-Some.ensures.to count records hold
