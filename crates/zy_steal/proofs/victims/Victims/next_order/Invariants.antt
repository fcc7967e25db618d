use Rattle.std.proofs.Common.{◌≡◌}
use Rattle.zy_steal.specs.Order.{first_victims}
use Rattle.zy_steal.proofs.victims.Victims.next_order.Given as goal

abbrev pub invariant-loop-turn : goal.invariant-loop-turn
invariant-loop-turn l = l.order ≡ first_victims l.fn.self.cores l.fn.self.core l.fn.self.calls l.turn
