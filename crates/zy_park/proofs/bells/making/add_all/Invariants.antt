use Rattle.std.proofs.Common.{◌≡◌, length}
use Rattle.zy_park.specs.Pass.{new_root}
use Rattle.zy_park.proofs.bells.making.add_all.Given as goal

abbrev pub invariant-loop : goal.invariant-loop
invariant-loop l = record {
  cores : length l.bells.items ≡ l.counter;
  root : l.root ≡ new_root l.bells.items;
}
