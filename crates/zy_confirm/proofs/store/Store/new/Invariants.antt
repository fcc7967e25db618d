use Rattle.std.proofs.Common.{◌≡◌, ◌≤◌, length, vec_capacity}
use Rattle.zy_confirm.proofs.StoreLemmas.{AreEmpty}
use Rattle.zy_confirm.proofs.store.Store.new.Given as goal

abbrev pub invariant-loop : goal.invariant-loop
invariant-loop l = record {
  size : length l.made.items ≡ l.counter;
  room : l.shards ≤ vec_capacity l.made;
  empty : AreEmpty l.made.items;
}
