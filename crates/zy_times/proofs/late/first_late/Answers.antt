use Rattle.std.specs.List.{slice_get}
use Rattle.std.proofs.Common.{◌≡◌, ◌+◌, length, List, Some, sym, ◌∙◌, ap, subst, arith}
use Rattle.std.proofs.lemmas.Option.{slice_get_within}
use Rattle.mc_calls.specs.declared.entry.Entry.{Entry}
use Rattle.zy_check.proofs.WalkLemmas.{left_first, none_left}
use Rattle.zy_times.specs.Recorded.{CameBefore}
use Rattle.zy_times.proofs.LateLemmas.{before_first, before_more, late_here, entry_there}
use Rattle.zy_times.proofs.late.first_late.Goals as goal

pub loop-at-init : goal.loop-at-init
loop-at-init c = record { left = c.entries-entries.ensures.value; within = omega arith; before = λ r count h is spans. before_first r }

pub returns-in_default : goal.returns-in_default
returns-in_default c = record {
  found = λ r count h is spans.
      let inv = c.loop-at.invariant in
      let end : c.loop-at.at ≡ length c.args.journal.now.entries = none_left c.args.journal.now.entries c.loop-at.at (sym inv.left ∙ c.in_default.ensures.none) inv.within in
      let all = ap (λ (es : List Entry). length es) is in
      let before = inv.before r count h is spans in
      λ p q order late. before.none p q order (let low = slice_get_within r.entries q late.e late.is_last in omega (arith, low, all, end)) late;
}

pub span_of-span-requires : goal.span_of-span-requires
span_of-span-requires c =
    let h = c.requires.holds in
    record { holds = (h.0, h.1, c.loop-at.at, h.2, h.4, entry_there h.0 c.args.journal.now.entries c.loop-at.at c.in-Some.entry c.next.new.self h.3 (sym c.loop-at.invariant.left ∙ c.in-Some.ensures.some)) }

pub returns-in-Some-end_before : goal.returns-in-Some-end_before
returns-in-Some-end_before c = record {
  found = λ r count h is spans.
      let at = c.loop-at.at in
      let e = c.in-Some.entry in
      let here : slice_get r.entries at ≡ Some e = entry_there r c.args.journal.now.entries at e c.next.new.self is (sym c.loop-at.invariant.left ∙ c.in-Some.ensures.some) in
      let some = c.end_before.ensures.some c.in-Some-end_before.moment c.in-Some-end_before.is in
      late_here r at c.loop-at.latest e c.span_of-span.result.end here (c.span_of-span.ensures.span r count at h spans here).ended (c.loop-at.invariant.before r count h is spans) c.in-Some-end_before.moment some.0 some.1;
}

pub loop-at-preserved : goal.loop-at-preserved
loop-at-preserved c =
    let at = c.loop-at.at in
    let e = c.in-Some.entry in
    let first = left_first c.args.journal.now.entries at e c.next.new.self (sym c.loop-at.invariant.left ∙ c.in-Some.ensures.some) in record {
      left = first.1;
      within = first.2;
      before = λ r count h is spans.
          let here : slice_get r.entries at ≡ Some e = ap (λ (es : List Entry). slice_get es at) is ∙ first.0 in
          subst (CameBefore r (at + 1)) (sym c.later_of-latest.ensures.value)
          (before_more r at c.loop-at.latest e c.span_of-span.result.end here (c.span_of-span.ensures.span r count at h spans here).ended (c.loop-at.invariant.before r count h is spans) c.span_of-span.result.sent (c.span_of-span.ensures.span r count at h spans here).sent (c.end_before.ensures.none c.in_default-end_before.is));
    }
