use Rattle.std.proofs.Common.{List, take, sym, subst}
use Rattle.std.proofs.lemmas.List.{take_more}
use Rattle.mc_calls.specs.declared.hold.Hold.{Hold}
use Rattle.zy_check.specs.Held.{FoundStray}
use Rattle.zy_check.proofs.holds.first_stray.Goals as goal

pub loop-at-preserved : goal.loop-at-preserved
loop-at-preserved c =
    subst (λ (l : List Hold). FoundStray c.args.count l c.lower_stray-found.result) (sym (take_more c.args.holds.now c.loop-at.at _ c.loop-at-test.true))
    (c.lower_stray-found.ensures.found (take c.loop-at.at c.args.holds.now) c.loop-at.invariant)
