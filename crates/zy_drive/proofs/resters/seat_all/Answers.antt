use Rattle.std.proofs.Common.{arith, ap}
use Rattle.zy_park.specs.Pass.{Passed, Rooted}
use Rattle.zy_drive.proofs.RestLemmas.{at_last}
use Rattle.zy_drive.proofs.resters.seat_all.Goals as goal

pub loop-core-preserved : goal.loop-core-preserved
loop-core-preserved c =
    let inv = c.loop-core.invariant in let near = c.loop-core-test.true in (
      omega (arith, c.push_reserved.ensures.len, inv.0),
      omega (arith, c.push_reserved.ensures.capacity, inv.1),
      ap (λ (r : Rooted). r.bells) c.in_ok-pass.ensures.ok,
      (λ other le lt. c.in_ok-pass.ensures.others other (λ e. absurd (omega arith)) (inv.3 other (omega arith) lt)),
      rw c.push_reserved.ensures.items (at_last c.args.bells.now c.loop-core.passes.items c.in_ok-pass.pass inv.4 (ap (λ (p : Passed). p.bells) c.in_ok-pass.ensures.value)),
    )
