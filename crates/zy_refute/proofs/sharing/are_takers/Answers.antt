use Rattle.std.proofs.Common.{arith}
use Rattle.std.proofs.lemmas.List.Elements.{All-more}
use Rattle.zy_refute.specs.Shared.{IsTaker}
use Rattle.zy_refute.proofs.SharingLemmas as Lemmas
use Rattle.zy_refute.proofs.sharing.are_takers.Goals as goal

pub loop-reader-preserved : goal.loop-reader-preserved
loop-reader-preserved c =
    All-more (IsTaker c.args.calls.now c.args.fact.now) c.args.readers.now c.loop-reader.reader-index 0 (let within = c.loop-reader-test.true in omega (arith, within)) c.loop-reader.invariant
    (c.in_ok-is_taker.ensures.taker c.if-not-branch.false)

pub returns : goal.returns
returns c = record { takers = λ yes. Lemmas.all_taken (IsTaker c.args.calls.now c.args.fact.now) c.args.readers.now c.loop-reader.reader-index (let all = c.loop-reader-test.false in omega (arith, all)) c.loop-reader.invariant }
