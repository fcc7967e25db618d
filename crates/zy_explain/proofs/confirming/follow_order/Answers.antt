use Rattle.std.proofs.Common.{◌≡◌, true, arith}
use Rattle.zy_explain.proofs.EndLemmas.{ends_by}
use Rattle.zy_explain.proofs.confirming.follow_order.Goals as goal

pub returns : goal.returns
returns c =
    let is : c.in_ok-done.done ≡ true = let t = c.if-not-done.false in grind (arith, t) in
    let lasting = c.args.lasting.now in
    record {
      ends = ends_by c.args.rules lasting c.args.sessions.now c.args.outputs.now.sessions c.args.state.now c.settle.new.self
          (λ began stands. c.in_ok-done.ensures.stands is lasting began (c.loop-placement.invariant.stands began stands))
          c.numbers.result c.numbers.ensures.value;
    }
