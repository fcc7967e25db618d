use Rattle.std.proofs.Common.{◌≡◌, true, arith}
use Rattle.zy_explain.specs.Making.{may_lose_in}
use Rattle.zy_explain.proofs.MoreLemmas.{carried_by}
use Rattle.zy_explain.proofs.carrying.carry_out.Goals as goal

pub returns : goal.returns
returns c =
    let is : c.in_ok-done.done ≡ true = let t = c.if-not-done.false in grind (arith, t) in
    record { carried = carried_by (may_lose_in c.args.forget c.args.lasting.now) c.args.store.now c.lose.new.store _ c.args.call.now (c.in_ok-done.ensures.lost is) c.make.result c.make.ensures.made }
