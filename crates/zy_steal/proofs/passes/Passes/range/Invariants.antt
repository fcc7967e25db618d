use Rattle.std.proofs.Common.{◌≡◌, ◌≤◌, ◌-◌}
use Rattle.zy_steal.specs.Range.{Ranges}
use Rattle.zy_steal.proofs.passes.Passes.range.Given as goal

abbrev pub invariant-loop-at : goal.invariant-loop-at
invariant-loop-at g l = record {
  core : l.self.core ≡ l.fn.self.core;
  limits : (l.from ≤ l.at) × (l.at ≤ l.to);
  ranges : Ranges l.fn.self.core l.fn.self.items l.self.items l.fn.looks l.looks l.from l.at;
}

abbrev pub decreases-loop-at : goal.decreases-loop-at
decreases-loop-at g l = l.to - l.at
