use Rattle.std.proofs.Common.{rules, ◌≡◌, ◌+◌, ℕ, Bool, List, length, take, false, refl, sym, ◌∙◌, ap, subst, arith}
use Rattle.std.specs.List.{slice_get}
use Rattle.std.proofs.lemmas.Option.{slice_get-get_or, slice_get_read}
use Rattle.zy_times.specs.Recording.{first_in}
use Rattle.zy_times.specs.Times.{trues}
use Rattle.zy_times.specs.Spans.{AreSpansBelow}
use Rattle.zy_times.specs.declared.span.Span.{Span}
use Rattle.zy_times.proofs.SessionLemmas.{sent_size}
use Rattle.zy_times.proofs.SpanLemmas.{spans_more}
use Rattle.zy_times.proofs.TrueLemmas.{trues_one}
use Rattle.zy_times.proofs.ending.add_spans.Goals as goal

pub loop-index-init : goal.loop-index-init
loop-index-init c = record {
  count = refl;
  few = omega arith;
  more = λ r conn number h is are. let none : first_in r conn number ≡ first_in r conn number + 0 = omega arith in subst (λ (n : ℕ). AreSpansBelow r conn n c.args.spans.now.items) none are;
}

pub loop-index-preserved : goal.loop-index-preserved
loop-index-preserved c =
    let inv = c.loop-index.invariant in
    let index = c.loop-index.index in
    let low = c.loop-index-test.true in
    let flag = c.number_if-ended.ensures.value in
    let one = trues_one c.args.answered.now index _ (slice_get-get_or c.args.answered.now index false low) in
    let count = inv.count in
    record {
      count = omega (arith, count, flag, one);
      few = search rules;
      more = λ r conn number h is are.
          let size = c.requires.size in
          let all = sent_size r.records conn number c.args.session.now h in
          let span : Span = record { sent = c.index.result.now; end = c.moment_at.result } in
          let mark = sym c.moment_at.ensures.value in
          subst (AreSpansBelow r conn (first_in r conn number + (index + 1))) (sym c.in_ok-push.ensures.items)
          (spans_more r conn number c.args.session.now h index c.loop-index.spans.items span (omega (arith, low, size, all))
          (slice_get_read c.args.session.now.sent.items _ index c.index.result.now refl (omega (arith, low, size)) c.index.ensures)
          (ap (slice_get c.args.session.now.marks.items) (sym (count ∙ ap (λ (l : List Bool). trues (take index l)) is)) ∙ mark)
          (inv.more r conn number h is are));
    }

pub returns : goal.returns
returns c = record {
  more = λ r conn number h is are.
      let last : c.loop-index.index ≡ length c.args.answered.now = omega (arith, c.loop-index-test.false, c.loop-index.auto.index-end) in
      subst (λ (n : ℕ). AreSpansBelow r conn (first_in r conn number + n) c.loop-index.spans.items) last (c.loop-index.invariant.more r conn number h is are);
}
