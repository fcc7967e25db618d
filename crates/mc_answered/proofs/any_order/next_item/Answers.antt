use Rattle.std.proofs.Common.{◌<◌, ap, sym, ◌∙◌, length, List, ℕ, arith}
use Rattle.std.specs.List.{slice_index_or}
use Rattle.mc_answered.specs.With.{said_item}
use Rattle.mc_answered.proofs.FoundLemmas.{item_at-is, below_at}
use Rattle.mc_answered.proofs.any_order.next_item.Goals as goal

pub returns-in-Some : goal.returns-in-Some
returns-in-Some c =
    let keys = c.args.keys.now in
    let saids = c.args.saids.now in
    let left = c.args.left.now in
    let i = slice_index_or left c.loop-place.place 0 in
    let near = c.loop-place-test.true in
    let there : c.loop-place.place < length left = omega arith in
    let low : i < length saids = below_at (length saids) left c.loop-place.place 0 c.requires.within there in
    let same = c.requires.same in
    let low_too : i < length keys = omega (arith, low, same) in
    record {
      value = (
        there,
        c.in-Some.ensures.value.0,
        c.in-Some.ensures.value.1 ∙ ap (λ (key : List ℕ). said_item c.args.asked key c.index-saids-i.result) c.bytes.ensures.value
            ∙ sym (item_at-is c.args.asked keys saids i c.index-keys-i.result c.index-saids-i.result low_too low c.index-keys-i.is c.index-saids-i.is),
      );
    }
