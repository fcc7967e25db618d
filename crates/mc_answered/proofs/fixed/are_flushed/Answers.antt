use Rattle.std.proofs.Common.{refl, arith}
use Rattle.mc_answered.proofs.FoundLemmas.{flushed_next}
use Rattle.mc_answered.proofs.fixed.are_flushed.Goals as goal

pub loop-i-preserved : goal.loop-i-preserved
loop-i-preserved c = λ rest.
    let near = c.loop-i-test.true in
    c.loop-i.invariant (flushed_next c.args.saids.now c.loop-i.i c.index-saids-i.result (omega arith) c.index-saids-i.is (c.if-not-is_flushed.ensures.value refl) rest)
