use Rattle.std.proofs.Common.{arith}
use Rattle.std.proofs.lemmas.List.Elements.{All-more}
use Rattle.zy_refute.specs.Unmet.{IsNoMakerAt}
use Rattle.zy_refute.proofs.SharingLemmas as Lemmas
use Rattle.zy_refute.proofs.sharing.is_source_of_none.Goals as goal

pub loop-reader-preserved : goal.loop-reader-preserved
loop-reader-preserved c =
    All-more (λ reader. IsNoMakerAt c.args.store c.args.calls.now c.args.fact.now c.args.at reader) c.args.readers.now c.loop-reader.reader-index 0 (let within = c.loop-reader-test.true in omega (arith, within)) c.loop-reader.invariant
    (c.in_ok-is_no_source_at.ensures.none c.if-not-branch.false)

pub returns : goal.returns
returns c = record { none = λ yes. Lemmas.all_taken (λ reader. IsNoMakerAt c.args.store c.args.calls.now c.args.fact.now c.args.at reader) c.args.readers.now c.loop-reader.reader-index (let all = c.loop-reader-test.false in omega (arith, all)) c.loop-reader.invariant }
