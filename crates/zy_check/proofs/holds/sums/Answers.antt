use Rattle.std.proofs.Common.{List, take, sym, subst}
use Rattle.std.proofs.lemmas.List.{take_more}
use Rattle.mc_calls.specs.declared.hold.Hold.{Hold}
use Rattle.zy_check.specs.Held.{AreSums}
use Rattle.zy_check.proofs.holds.sums.Goals as goal

pub loop-at-preserved : goal.loop-at-preserved
loop-at-preserved c =
    subst (λ (l : List Hold). AreSums c.args.count l c.add.new.sums.items) (sym (take_more c.args.holds.now c.loop-at.at _ c.loop-at-test.true))
    (c.in_ok-add.ensures.sums c.args.count (take c.loop-at.at c.args.holds.now) c.loop-at.invariant)
