use Rattle.std.proofs.Common.{rules, ◌≡◌, ◌+◌, ◌≤◌, Bool, List, false, get_or, refl, sym, ◌∙◌, ap, subst, arith}
use Rattle.std.proofs.lemmas.List.{take_all}
use Rattle.std.proofs.lemmas.Option.{slice_get-get_or, slice_get_read}
use mathlib.Core.Logic.{dite}
use native.Mathlib.Decide.{dec_lt}
use Rattle.zy_times.specs.Sessions.{sent_in}
use Rattle.zy_times.specs.Times.{trues, number_if}
use Rattle.zy_times.specs.Fitting.{AreGood}
use Rattle.zy_times.proofs.SessionLemmas.{sent_from}
use Rattle.zy_times.proofs.TrueLemmas.{trues_one}
use Rattle.zy_times.proofs.FitLemmas.{all_good, sent_late, good_more, found_last}
use Rattle.zy_times.proofs.fitting.first_unfit.Goals as goal
use Rattle.zy_times.proofs.fitting.first_unfit.Goals.{else-answered-index-via-then-answered-index+else-moment-index, else-answered-index-via-else-answered-index}

pub loop-index-init : goal.loop-index-init
loop-index-init c = record { count = refl; few = omega arith; good = λ records conn number h mark moment below there. absurd (omega arith) }

pub returns-in_default : goal.returns-in_default
returns-in_default c = record {
  found = λ records conn number h.
      all_good records conn number c.args.session.now c.args.answered.now h c.loop-index.ended (sym c.moment_at.ensures.value ∙ c.in_default.is) (c.loop-index.invariant.good records conn number h);
}

pub returns-then-moment-index : goal.returns-then-moment-index
returns-then-moment-index c = record {
  found = λ records conn number h.
      let index = c.loop-index.index in
      let low = c.loop-index-test.true in
      let size = c.requires.size in
      let later = c.if-moment-index.true in
      let moment = c.in-Some.moment in
      let sent = slice_get_read c.args.session.now.sent.items _ index c.index.result.now refl (omega (arith, low, size)) c.index.ensures in
      let unsent : sent_in records conn number moment ≤ index = dite (dec_lt index (sent_in records conn number moment))
      (λ above. let order = (sent_from records conn number c.args.session.now h index c.index.result.now moment sent).0 above in absurd (omega (arith, order, later)))
      (λ not_above. omega arith) in
      sent_late records conn number c.args.session.now c.args.answered.now h c.loop-index.ended index moment (sym c.moment_at.ensures.value ∙ c.in-Some.is) (c.loop-index.invariant.good records conn number h) c.loop-index.invariant.count unsent;
}

pub returns : goal.returns
returns c = record {
  found = λ records conn number h.
      let whole = ap (λ (l : List Bool). trues l) (take_all c.loop-index.index c.args.answered.now (omega (arith, c.loop-index-test.false))) in
      found_last records conn number c.args.session.now c.args.answered.now h c.loop-index.ended c.moment_at-2.result (sym c.moment_at-2.ensures.value) (c.loop-index.invariant.good records conn number h)
      (c.loop-index.invariant.count ∙ whole);
}

pub loop-index-preserved : goal.loop-index-preserved
loop-index-preserved c =
    let inv = c.loop-index.invariant in
    let index = c.loop-index.index in
    let low = c.loop-index-test.true in
    let value = c.number_if-ended.ensures.value in
    let flag = get_or c.args.answered.now index false in
    let one = trues_one c.args.answered.now index flag (slice_get-get_or c.args.answered.now index false low) in
    let count = inv.count in
    let size = c.requires.size in
    record {
      count = omega (arith, count, value, one);
      few = search rules;
      good = λ records conn number h. elim c.else-answered-index.branch [
        | else-answered-index-via-then-answered-index+else-moment-index w ↦ (
            let sent = slice_get_read c.args.session.now.sent.items _ index w.index.result.now refl (omega (arith, low, size)) w.index.ensures in
            let order = w.if-moment-index.false in
            let above = (sent_from records conn number c.args.session.now h index w.index.result.now c.in-Some.moment sent).1 (omega (arith, order)) in
            let ends : number_if flag ≡ 1 = ap number_if w.if-answered-index.true in
            let up : c.loop-index.ended + 1 ≡ c.loop-index.ended + c.number_if-ended.result = omega (arith, value, ends) in
            subst (AreGood records conn number c.args.session.now.marks.items c.args.answered.now) up
            (good_more records conn number c.args.session.now c.args.answered.now h c.loop-index.ended index c.in-Some.moment (inv.good records conn number h) (sym c.moment_at.ensures.value ∙ c.in-Some.is) above (omega (arith, one, count, ends))))
        | else-answered-index-via-else-answered-index w ↦ (
            let none : number_if flag ≡ 0 = ap number_if w.if-answered-index.false in
            let same : c.loop-index.ended ≡ c.loop-index.ended + c.number_if-ended.result = omega (arith, value, none) in
            subst (AreGood records conn number c.args.session.now.marks.items c.args.answered.now) same (inv.good records conn number h))
      ];
    }
