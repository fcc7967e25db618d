use Rattle.std.proofs.Common.{length, ap, ◌∙◌, arith}
use Rattle.zy_steal.proofs.OrderLemmas.{order_more, length-first_victims}
use Rattle.zy_steal.proofs.victims.Victims.next_order.Goals as goal

pub push-requires : goal.push-requires
push-requires c = record {
  few = let made = ap length c.loop-turn.invariant ∙ length-first_victims _ _ _ c.loop-turn.turn in
      let i = c.self.invariant in let lt = c.loop-turn-test.true in omega arith;
}

pub loop-turn-preserved : goal.loop-turn-preserved
loop-turn-preserved c = order_more c.args.self.now c.self.inside.cores c.self.inside.core c.self.inside.calls c.loop-turn.turn c.loop-turn.order c.push.new.self c.self.view_is c.loop-turn.invariant c.push.ensures.value
