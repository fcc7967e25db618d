use Rattle.std.proofs.Common.{sym, subst}
use Rattle.zy_journal.specs.Walk.{AreHeads, AreQuads, AreBests}
use Rattle.zy_journal.proofs.WalkLemmas.{none_taken}
use Rattle.zy_journal.proofs.rests.Rests.new.Goals as goal

pub invariant_of-result : goal.invariant_of-result
invariant_of-result c =
    let hs = c.args.histories.now in (
      c.requires.few,
      subst (λ l. AreHeads l c.heads_of-heads.result) (sym (none_taken hs 256)) c.heads_of-heads.ensures.value,
      subst (λ l. AreQuads l c.quads_of-quads.result) (sym (none_taken hs 256)) (c.quads_of-quads.ensures.value hs c.heads_of-heads.ensures.value),
      subst (λ l. AreBests l c.bests_of.result) (sym (none_taken hs 256)) (c.bests_of.ensures.value hs (c.quads_of-quads.ensures.value hs c.heads_of-heads.ensures.value)),
    )

pub returns : goal.returns
returns c = record { value = none_taken c.args.histories.now 256 }
