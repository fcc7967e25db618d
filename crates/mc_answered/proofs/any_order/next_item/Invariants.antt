use Rattle.std.specs.Prelude.{⊤}
use Rattle.mc_answered.proofs.any_order.next_item.Given as goal

abbrev pub invariant-loop-place : goal.invariant-loop-place
invariant-loop-place l = ⊤
