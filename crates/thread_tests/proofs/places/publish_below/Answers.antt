use Rattle.std.proofs.Common.{◌∙◌, ap, arith}
use Rattle.zy_table.specs.Member.{is_in}
use Rattle.zy_table.proofs.MemberLemmas.{in_without}
use Rattle.thread_tests.proofs.places.publish_below.Goals as goal

pub loop-k-preserved : goal.loop-k-preserved
loop-k-preserved c =
    let i = c.loop-k.invariant in
    let e = c.publish.ensures.value in record {
      table = ap (λ v. v.table) e ∙ i.table;
      label = ap (λ v. v.label) e ∙ i.label;
      out = ap (λ v. v.out) e ∙ i.out;
      count = let a = ap (λ v. v.count) e in let b = i.count in omega arith;
      hand = λ place lt. ap (λ v. is_in place v.hand) e ∙ in_without _ place _ (λ f. omega arith) ∙ i.hand place (omega arith);
    }
