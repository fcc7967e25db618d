use Rattle.std.proofs.Common.{◌≡◌, true, Option, IfSome, subst, arith}
use Rattle.zy_confirm.specs.declared.store.Store.{Store}
use Rattle.zy_explain.specs.declared.confirming.Followed.{Followed}
use Rattle.zy_explain.specs.Ending.{EndsAs}
use Rattle.zy_explain.proofs.EndLemmas.{explained_there}
use Rattle.zy_explain.proofs.confirming.confirm.Goals as goal

pub returns-in-Some-2 : goal.returns-in-Some-2
returns-in-Some-2 c =
    let rules = c.args.rules in
    let sessions = c.args.sessions.now in
    let outputs = c.args.outputs.now.sessions in
    let is : c.may_follow.result ≡ true = let f = c.if-not-may_follow.false in grind (arith, f) in
    let ends = subst (λ (f : Option Followed). IfSome f (λ e. EndsAs rules sessions.lasting sessions outputs c.in-Some.store e.state e.numbers)) c.in-Some-2.is c.in_ok-numbers.ensures.ends in
    record {
      explained = λ count records hold. explained_there rules sessions outputs c.in-Some.store c.in-Some-2.field-0.state c.in-Some-2.field-0.numbers (c.may_follow.ensures.have is) ends count records hold;
    }
