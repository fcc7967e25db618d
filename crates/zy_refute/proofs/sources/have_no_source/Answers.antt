use Rattle.std.proofs.Common.{arith}
use Rattle.zy_refute.proofs.UnmetLemmas.{passed_on}
use Rattle.zy_refute.proofs.sources.have_no_source.Goals as goal

pub loop-at-preserved : goal.loop-at-preserved
loop-at-preserved c =
    passed_on c.args.store c.args.calls.now c.args.fact.now c.args.reader c.loop-at.at c.loop-at.invariant (c.in_ok-is_passed.ensures.none c.if-not-branch.false)

pub returns : goal.returns
returns c = record { none = λ yes at below. c.loop-at.invariant at (let all = c.loop-at-test.false in omega (arith, below, all)) }
