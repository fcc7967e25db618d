use Rattle.std.proofs.Common.{◌≡◌, ◌≤◌, ◌+◌, [], ◌∷◌, ◌++◌, List, length, take, slice_get, slice_index_or, ◌∙◌, ap, sym, subst, arith, length-append}
use Rattle.std.specs.Prelude.{Some}
use Rattle.mc_shard.specs.declared.slot.Slot.{Slot}
use Rattle.mc_shard.specs.Places.{Held, sifted}
use Rattle.mc_shard.proofs.LineLemmas.{index_got, take_one, eqb_same, eqb_differ, sifted_more, sifted_less}
use Rattle.mc_shard.proofs.places.growing.half_of.Goals as goal
use Rattle.mc_shard.proofs.places.growing.half_of.Goals.{then-slot-shift, else-slot-shift}

abbrev none : Slot
none = record { hash = 0; place = 0 }

pub loop-at-preserved : goal.loop-at-preserved
loop-at-preserved c =
    let at = c.loop-at.at in
    let shift = c.args.shift in
    let bit = c.args.bit in
    let slots : List Slot = c.args.line.now.slots in
    let slot : Slot = slice_index_or c.slots-slots.result.now at none in
    let got : slice_get slots at ≡ Some slot =
    subst (λ (xs : List Slot). slice_get xs at ≡ Some slot) c.slots-slots.ensures.value (index_got c.slots-slots.result.now at none (omega (arith, c.loop-at-test.true))) in
    let more = take_one slots at slot got in
    let size = ap (λ (xs : List Slot). length xs) c.slots-slots.ensures.value in
    let within : at + 1 ≤ length slots = omega (arith, c.loop-at-test.true, size) in
    elim c.if-slot-shift.branch [
      | then-slot-shift w ↦ (
          let longer = ap (λ (h : Held). h.slots) w.half-is ∙ w.push.ensures.slots in
          let count = ap (λ (xs : List Slot). length xs) longer ∙ length-append c.loop-at.half.slots (slot ∷ []) in
          record {
            half = longer ∙ ap (λ (l : List Slot). l ++ slot ∷ []) c.loop-at.invariant.half
                ∙ sym (sifted_more shift bit (take at slots) slot (eqb_same _ _ w.if-slot-shift.true)) ∙ ap (sifted shift bit) (sym more);
            mark = ap (λ (h : Held). h.marked) w.half-is ∙ w.push.ensures.mark ∙ c.loop-at.invariant.mark;
            few = omega (arith, count, c.loop-at.invariant.few);
            within = within;
          })
      | else-slot-shift w ↦ (
          let same = ap (λ (h : Held). h.slots) w.half-is in
          let count = ap (λ (xs : List Slot). length xs) same in
          record {
            half = same ∙ c.loop-at.invariant.half
                ∙ sym (sifted_less shift bit (take at slots) slot (eqb_differ _ _ w.if-slot-shift.false)) ∙ ap (sifted shift bit) (sym more);
            mark = ap (λ (h : Held). h.marked) w.half-is ∙ c.loop-at.invariant.mark;
            few = omega (arith, count, c.loop-at.invariant.few);
            within = within;
          })
    ]
