use Rattle.std.proofs.Common.{◌≡◌, ◌-◌, length}
use Rattle.zy_confirm.specs.Gathering.{KeepsKeys, TakesInOrder}
use Rattle.zy_confirm.proofs.gathering.take_in_order.Given as goal

abbrev pub invariant-loop : goal.invariant-loop
invariant-loop l = record {
  taken : TakesInOrder l.fn.items.items l.fn.all l.items.items l.all;
  keys : KeepsKeys l.fn.items.items l.fn.all l.items.items l.all;
  left : length l.all.entries ≡ length l.fn.all.entries - l.counter;
}
