use Rattle.std.proofs.Common.{[], get_or, refl, arith}
use Rattle.mc_answered.proofs.FoundLemmas.{got_next}
use Rattle.mc_answered.proofs.listing.are_got.Goals as goal

pub loop-i-preserved : goal.loop-i-preserved
loop-i-preserved c = λ rest.
    let same = c.if-keys-saids.false in
    let near = c.loop-i-test.true in
    c.loop-i.invariant
    (
    got_next c.args.keys.now c.args.saids.now c.loop-i.i [] c.index-saids-i.result (omega arith) (omega arith) c.index-saids-i.is
    (c.if-not-is_got.ensures.value (get_or c.args.keys.now c.loop-i.i []) refl) rest
    )
