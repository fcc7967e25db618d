use Rattle.std.proofs.Common.{refl}
use Rattle.zy_rss.specs.Toeplitz.{hash_of_first}
use Rattle.zy_rss.proofs.WindowLemmas.{one_more}
use Rattle.zy_rss.proofs.hashing.toeplitz.Goals as goal

pub loop-place-init : goal.loop-place-init
unfolding hash_of_first
loop-place-init c = refl

pub loop-place-preserved : goal.loop-place-preserved
loop-place-preserved c = one_more c.args.input.now c.loop-place.place c.loop-place.hash c.term-hash.result c.loop-place.invariant c.term-hash.ensures.value
