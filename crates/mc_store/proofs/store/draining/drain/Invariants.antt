use Rattle.std.proofs.Common.{◌≡◌, ℕ, ◌<◌, false, get_or, map, take, vec_len}
use Rattle.std.specs.Vec.{vec_capacity}
use Rattle.std.specs.Slots.{slots_filled, slots_len, slots_items}
use Rattle.std.specs.Slots.Ownership.{Filled}
use Rattle.mc_store.specs.Closing.{history_in}
use Rattle.mc_store.proofs.store.draining.drain.Given as goal

-- the shards before the place were taken out, and their histories are in the list
abbrev pub invariant-loop-place : goal.invariant-loop-place
invariant-loop-place l = record {
  filled : Filled (slots_filled l.closed.slots) l.place (slots_len l.closed.slots);
  taken : (j : ℕ) → j < l.place → get_or (slots_filled l.closed.slots) j false ≡ false;
  same : slots_items l.closed.slots ≡ slots_items l.initial.closed.slots;
  count : slots_len l.closed.slots ≡ slots_len l.initial.closed.slots;
  items : l.lists.items ≡ map history_in (take l.place (slots_items l.initial.closed.slots));
  long : vec_len l.lists ≡ l.place;
  room : vec_capacity l.lists ≡ vec_capacity l.initial.lists;
}
