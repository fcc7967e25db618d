use Rattle.std.proofs.Common.{arith}
use Rattle.zy_refute.proofs.SharingLemmas as Lemmas
use Rattle.zy_refute.proofs.sharing.are_rising.Goals as goal

pub returns : goal.returns
returns c = record { apart = λ yes. Lemmas.apart c.args.readers.now (λ k below. c.loop-at.invariant k (let all = c.loop-at-test.false in omega (arith, below, all))) }
