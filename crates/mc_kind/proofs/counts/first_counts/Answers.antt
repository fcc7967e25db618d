use Rattle.std.proofs.Common.{refl}
use Rattle.std.specs.Prelude.{codes}
use Rattle.mc_answers.specs.Kinds.{IsLineWith}
use Rattle.mc_kind.proofs.CountLemmas.{counts_whole, counts_refused}
use Rattle.mc_kind.proofs.SeriesLemmas.{one_more}
use Rattle.mc_kind.proofs.counts.first_counts.Goals as goal

pub returns-then-is_end : goal.returns-then-is_end
returns-then-is_end c = record {
  value = counts_whole c.args.bytes.now c.text_from-rest.result.now c.loop.at c.in-Some.length c.loop.invariant c.text_from-rest.ensures.value c.in-Some.ensures.within.1 (c.is_end.ensures.value.0 c.if-is_end.true);
}

pub returns-else-is_error_line : goal.returns-else-is_error_line
returns-else-is_error_line c = record {
  value = counts_refused c.args.bytes.now c.text_from-rest.result.now c.loop.at c.in-Some.length c.loop.invariant c.text_from-rest.ensures.value c.in-Some.ensures.some
      (λ one. let a = c.if-is_end.ensures.value.1 one in absurd (cc)) (λ one. let a = c.if-not-is_line_with.ensures.value.1 one in absurd (cc)) (λ one. let a = c.if-is_error_line.ensures.value.1 one in absurd (cc));
}

pub loop-preserved : goal.loop-preserved
loop-preserved c =
    one_more (IsLineWith (codes "STAT ")) c.args.bytes.now c.text_from-rest.result.now c.loop.at c.in-Some.length c.loop.invariant c.text_from-rest.ensures.value c.in-Some.ensures.within.1
    (c.if-not-is_line_with.ensures.value.0 refl)
