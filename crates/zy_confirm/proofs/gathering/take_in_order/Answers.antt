use Rattle.std.proofs.Common.{length, arith}
use Rattle.zy_confirm.proofs.GatherLemmas.{rising_by}
use Rattle.zy_confirm.proofs.gathering.take_in_order.Goals as goal

pub returns-clause-rises : goal.returns-clause-rises
returns-clause-rises c =
    let left = c.loop.invariant.left in
    let done = c.loop-test.false in
    let size = c.len-end.ensures.len in
    rising_by c.args.items.now.items c.loop.items.items c.args.all.now c.loop.all c.requires.none (omega (arith, left, done, size)) c.loop.invariant.keys c.len-end.ensures.ordered
