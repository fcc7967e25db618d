use Rattle.std.proofs.Common.{arith}
use Rattle.zy_refute.proofs.sharing.listed.Goals as goal

pub returns : goal.returns
returns c = record { listed = λ at below. c.loop-at.invariant at (let all = c.loop-at-test.false in omega (arith, below, all)) }
