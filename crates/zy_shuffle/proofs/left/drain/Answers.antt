use Rattle.std.proofs.Common.{◌<◌, ℕ, List, Bool, false, length, get_or, set, arith, sym, ap, ◌∙◌, get_or-set_other, get_or-set_same, ◌++◌}
use mathlib.Core.Logic.{dite}
use native.Mathlib.Decide.{ℕ_discrete}
use Rattle.std.specs.Slots.{slots_items, slots_filled, slots_counts}
use Rattle.std.specs.Prelude as std
use Rattle.zy_shuffle.proofs.LeftLemmas.{left_more}
use Rattle.zy_shuffle.specs.Hand.{one_left}
use Rattle.zy_shuffle.proofs.left.drain.Goals as goal

pub loop-k-preserved : goal.loop-k-preserved
loop-k-preserved g c =
    let i = c.loop-k.invariant in
    let o = c.take.ensures.others in
    let k : ℕ = c.loop-k.k in
    let row = c.loop-k.closed.slots in
    let f : List Bool = slots_filled row in
    let counts = slots_counts row in
    let long : k < length f = omega arith in
    let value = ap (λ (l : List (std.Option g.row.T.Denot)). lib.ListN.get_elem? l k) (sym i.same) ∙ c.take.ensures.value in record {
      filled = λ j le lt. ap (λ (l : List Bool). get_or l j false) o.1 ∙ (get_or-set_other f k j false false (λ e. omega arith) ∙ i.filled j (omega arith) (omega arith));
      taken = λ j lt. ap (λ (l : List Bool). get_or l j false) o.1 ∙ dite (ℕ_discrete j k)
          (λ e. ap (λ (n : ℕ). get_or (set f k false) n false) e ∙ get_or-set_same f k false false long)
          (λ ne. get_or-set_other f k j false false ne ∙ i.taken j (omega arith));
      same = o.0 ∙ i.same;
      count = o.2 ∙ i.count;
      items = c.add.ensures.value ∙ ap (λ (l : List (ℕ × g.row.T.Denot)). l ++ one_left k c.take.result) i.items ∙ sym (left_more k (slots_items c.args.closed.slots) c.take.result value);
      long = omega (arith, c.add.ensures.count);
      room = c.add.ensures.kept ∙ i.room;
    }
