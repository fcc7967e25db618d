use Rattle.std.proofs.Common.{◌<◌, ℕ, ◌+◌, List, Bool, false, length, map, get_or, set, arith, sym, ap, ◌∙◌, get_or-set_other, get_or-set_same, ◌++◌, ◌∷◌, []}
use Rattle.std.proofs.lemmas.List.{map-append}
use mathlib.Core.Logic.{dite}
use native.Mathlib.Decide.{ℕ_discrete}
use Rattle.std.specs.Slots.{slots_items, slots_filled, slots_counts}
use Rattle.zy_table.proofs.SlotLemmas.{take_snoc}
use Rattle.mc_shard.specs.Shard.{Kept}
use Rattle.mc_store.specs.Closing.{history_in}
use Rattle.mc_store.proofs.store.draining.drain.Goals as goal

pub loop-place-preserved : goal.loop-place-preserved
loop-place-preserved c =
    let i = c.loop-place.invariant in
    let o = c.take.ensures.others in
    let k : ℕ = c.loop-place.place in
    let row = c.loop-place.closed.slots in
    let f : List Bool = slots_filled row in
    let counts = slots_counts row in
    let long : k < length f = omega arith in
    let value = ap (λ (l : List Kept). lib.ListN.get_elem? l k) (sym i.same) ∙ c.take.ensures.value in record {
      filled = λ j le lt. ap (λ (l : List Bool). get_or l j false) o.1 ∙ (get_or-set_other f k j false false (λ e. omega arith) ∙ i.filled j (omega arith) (omega arith));
      taken = λ j lt. ap (λ (l : List Bool). get_or l j false) o.1 ∙ dite (ℕ_discrete j k)
          (λ e. ap (λ (n : ℕ). get_or (set f k false) n false) e ∙ get_or-set_same f k false false long)
          (λ ne. get_or-set_other f k j false false ne ∙ i.taken j (omega arith));
      same = o.0 ∙ i.same;
      count = o.2 ∙ i.count;
      items = c.push_reserved.ensures.items ∙ (λ i'. i.items i' ++ c.into_history.ensures.value i' ∷ []) ∙ sym (ap (map history_in) (take_snoc (slots_items c.args.closed.slots) k c.take.result value) ∙ map-append history_in _ _);
      long = c.push_reserved.ensures.len ∙ ap (λ (n : ℕ). n + 1) i.long;
      room = c.push_reserved.ensures.capacity ∙ i.room;
    }
