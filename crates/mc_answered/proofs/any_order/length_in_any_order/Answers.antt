use Rattle.std.proofs.Common.{sym, ◌∙◌, subst, List, ℕ, length, refl}
use Rattle.std.specs.List.{AllByRecursion}
use Rattle.mc_answered.specs.With.{IsBelow, IsNext}
use Rattle.mc_answered.proofs.FoundLemmas.{same_count, left_below, more_taken, all_taken}
use Rattle.mc_answered.proofs.any_order.length_in_any_order.Goals as goal

pub next_item-requires-clause-same : goal.next_item-requires-clause-same
next_item-requires-clause-same c = same_count c.args.keys.now c.args.saids.now c.requires.got

pub next_item-requires-clause-within : goal.next_item-requires-clause-within
next_item-requires-clause-within c =
    subst (λ (l : List ℕ). AllByRecursion (IsBelow (length c.args.saids.now)) l) (sym c.as_slice-in-loop-left.ensures.value)
    (left_below c.args.asked c.args.keys.now c.args.saids.now c.args.bytes.now c.loop-left.left.items c.loop-left.at c.loop-left.invariant)

pub loop-left-preserved : goal.loop-left-preserved
loop-left-preserved c =
    more_taken c.args.asked c.args.keys.now c.args.saids.now c.args.bytes.now c.loop-left.left.items c.text_from.result.now c.remove.new.self.items c.loop-left.at c.in-Some.next.place c.in-Some.next.length
    c.loop-left.invariant c.text_from.ensures.value
    (
    subst (λ (l : List ℕ). IsNext c.args.asked c.args.keys.now c.args.saids.now l c.text_from.result.now c.in-Some.next.place c.in-Some.next.length) c.as_slice-in-loop-left.ensures.value
    c.in-Some.ensures.value
    )
    c.remove.ensures.items

pub returns-in-Some-end_length : goal.returns-in-Some-end_length
returns-in-Some-end_length c = record {
  value = all_taken c.args.asked c.args.keys.now c.args.saids.now c.args.bytes.now c.loop-left.left.items c.text_from-2.result.now c.loop-left.at c.in-Some-end_length.end c.requires.got c.loop-left.invariant
      (let none = c.loop-left-test.ensures.value refl in sym c.as_slice.ensures.value ∙ none) c.text_from-2.ensures.value c.in-Some-end_length.ensures.value.0 c.in-Some-end_length.ensures.value.1;
}
