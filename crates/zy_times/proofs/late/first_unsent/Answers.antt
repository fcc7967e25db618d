use Rattle.std.specs.List.{slice_get}
use Rattle.std.proofs.Common.{◌≡◌, List, Some, sym, ◌∙◌, ap, subst, arith}
use mathlib.Core.Logic.{dite}
use native.Mathlib.Decide.{dec_lt}
use Rattle.mc_calls.specs.declared.entry.Entry.{Entry}
use Rattle.zy_check.proofs.WalkLemmas.{left_first}
use Rattle.zy_times.specs.InTime.{IsEntrySent}
use Rattle.zy_times.proofs.LateLemmas.{entry_there}
use Rattle.zy_times.proofs.late.first_unsent.Goals as goal

pub span_of-requires : goal.span_of-requires
span_of-requires c =
    let h = c.requires.holds in
    record { holds = (h.0, h.1, c.loop-at.at, h.2, h.4, entry_there h.0 c.args.journal.now.entries c.loop-at.at c.in-Some.entry c.next.new.self h.3 (sym c.loop-at.invariant.left ∙ c.in-Some.ensures.some)) }

pub returns-then-moment-span_of : goal.returns-then-moment-span_of
returns-then-moment-span_of c = record {
  found = λ r count h is spans.
      let at = c.loop-at.at in
      let e = c.in-Some.entry in
      let here : slice_get r.entries at ≡ Some e = entry_there r c.args.journal.now.entries at e c.next.new.self is (sym c.loop-at.invariant.left ∙ c.in-Some.ensures.some) in
      let low = c.if-moment-span_of.true in
      record {
        e = e;
        is = here;
        unsent = λ sent. let no = ((c.span_of.ensures.span r count at h spans here).sent c.args.moment).0 sent in omega (arith, no, low);
        before = λ p other below there. c.loop-at.invariant.seen r count h is spans p other below there;
      };
}

pub loop-at-preserved : goal.loop-at-preserved
loop-at-preserved c =
    let at = c.loop-at.at in
    let e = c.in-Some.entry in
    let first = left_first c.args.journal.now.entries at e c.next.new.self (sym c.loop-at.invariant.left ∙ c.in-Some.ensures.some) in record {
      left = first.1;
      within = first.2;
      seen = λ r count h is spans p other below there. dite (dec_lt p at)
          (λ low. c.loop-at.invariant.seen r count h is spans p other low there)
          (λ high.
          let here : slice_get r.entries at ≡ Some e = ap (λ (es : List Entry). slice_get es at) is ∙ first.0 in
          let last : p ≡ at = omega arith in
          let both : Some e ≡ Some other = sym here ∙ ap (slice_get r.entries) (sym last) ∙ there in
          let same : e ≡ other = cc in
          let not_before = c.if-moment-span_of.false in
          subst (λ (x : Entry). IsEntrySent r x c.args.moment) same (((c.span_of.ensures.span r count at h spans here).sent c.args.moment).1 (omega (arith, not_before))));
    }
