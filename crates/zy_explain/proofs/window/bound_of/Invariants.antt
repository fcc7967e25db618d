use Rattle.std.proofs.Common.{◌≤◌, take, All}
use Rattle.zy_explain.specs.Between.{HasUniqueUpTo}
use Rattle.zy_explain.proofs.window.bound_of.Given as goal

-- no unique so far is greater
abbrev pub invariant-loop-kept : goal.invariant-loop-kept
invariant-loop-kept l = record {
  most : l.most ≤ l.bound;
  within : All (HasUniqueUpTo l.bound) (take l.kept-index l.items);
}
