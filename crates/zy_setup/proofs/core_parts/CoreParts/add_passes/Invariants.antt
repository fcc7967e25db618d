use Rattle.std.proofs.Common.{◌≡◌}
use Rattle.zy_setup.specs.Make.{no_passes}
use Rattle.zy_setup.proofs.core_parts.CoreParts.add_passes.Given as goal

abbrev pub invariant-loop-core : goal.invariant-loop-core
invariant-loop-core l = record {
  homes : l.self.homes ≡ l.fn.self.homes;
  rings : l.self.rings ≡ l.fn.self.rings;
  passes : l.self.passes.items ≡ no_passes l.core;
}
