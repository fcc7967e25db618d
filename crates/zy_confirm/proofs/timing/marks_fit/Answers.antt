use Rattle.std.proofs.Common.{rules, ◌≡◌, length, false, ap, subst, ◌∙◌, leb-true, arith}
use Rattle.std.specs.List.{slice_get}
use Rattle.std.proofs.lemmas.List.{take_all}
use Rattle.std.proofs.lemmas.Option.{slice_get-get_or}
use Rattle.zy_times.specs.Times.{trues}
use Rattle.zy_confirm.proofs.TimingLemmas.{AreMatched, trues_one, matched_more, matched_one, fits}
use Rattle.zy_confirm.proofs.timing.marks_fit.Goals as goal

pub loop-index-preserved : goal.loop-index-preserved
loop-index-preserved c =
    let inv = c.loop-index.invariant in
    let value = inv.count in
    let few = inv.few in
    let flag = c.number_if-ended.ensures.value in
    let at = c.loop-index.index in
    let is = slice_get-get_or c.args.answered.now at false c.loop-index-test.true in
    let one = trues_one c.args.answered.now at _ is in
    let size = c.requires.size in
    let within = c.loop-index-test.true in
    let own = slice_get-get_or c.args.sent.now at 0 (omega (arith, size, within)) in
    record {
      count = omega (arith, value, flag, one);
      few = search rules;
      matched = matched_more c.args.sent.now c.args.marks.now c.args.answered.now at inv.matched
          (matched_one c.args.sent.now c.args.marks.now c.args.answered.now at _ _ c.moment_at-mark.result is own
          (c.moment_at-mark.ensures.value ∙ ap (slice_get c.args.marks.now) value) (c.is_matched.ensures.matched (search rules)));
    }

pub returns : goal.returns
returns c = record {
  fit = λ enough records conn session sent marks moment.
      let inv = c.loop-index.invariant in
      let value = inv.count in
      let past = c.loop-index-test.false in
      let end = c.loop-index.auto.index-end in
      let last : c.loop-index.index ≡ length c.args.answered.now = omega (arith, past, end) in
      let whole = ap (λ l. trues l) (take_all c.loop-index.index c.args.answered.now (omega (arith, past))) in
      let few = leb-true (length c.args.marks.now) c.loop-index.ended enough in
      fits records conn session c.args.sent.now c.args.marks.now c.args.answered.now sent marks c.requires.size
      (subst (AreMatched c.args.sent.now c.args.marks.now c.args.answered.now) last inv.matched) (omega (arith, few, value, whole)) moment;
}
