use Rattle.std.proofs.Common.{◌≡◌, ℕ, ◌<◌, ◌≤◌, false, get_or, take, vec_len}
use Rattle.std.specs.Vec.{vec_capacity}
use Rattle.std.specs.Slots.{slots_filled, slots_len, slots_items}
use Rattle.std.specs.Slots.Ownership.{Filled}
use Rattle.zy_shuffle.specs.Hand.{left_of}
use Rattle.zy_shuffle.proofs.left.drain.Given as goal

abbrev pub invariant-loop-k : goal.invariant-loop-k
invariant-loop-k g l = record {
  filled : Filled (slots_filled l.closed.slots) l.k (slots_len l.closed.slots);
  taken : (j : ℕ) → j < l.k → get_or (slots_filled l.closed.slots) j false ≡ false;
  same : slots_items l.closed.slots ≡ slots_items l.initial.closed.slots;
  count : slots_len l.closed.slots ≡ slots_len l.initial.closed.slots;
  items : l.items.items ≡ left_of 0 (take l.k (slots_items l.initial.closed.slots));
  long : vec_len l.items ≤ l.k;
  room : vec_capacity l.items ≡ vec_capacity l.initial.items;
}
