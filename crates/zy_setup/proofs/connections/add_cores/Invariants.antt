use Rattle.std.proofs.Common.{◌≡◌, length}
use Rattle.std.specs.Prelude.{All}
use Rattle.zy_setup.specs.Make.{IsEmpty}
use Rattle.zy_setup.proofs.connections.add_cores.Given as goal

abbrev pub invariant-loop-core : goal.invariant-loop-core
invariant-loop-core l = record {
  count : length l.owns.items ≡ l._core;
  empty : All IsEmpty l.owns.items;
}
