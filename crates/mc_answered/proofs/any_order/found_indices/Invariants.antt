use Rattle.std.proofs.Common.{◌≡◌, ◌++◌, drop}
use Rattle.mc_answered.specs.With.{found_from}
use Rattle.mc_answered.proofs.any_order.found_indices.Given as goal

-- the indices so far are the first
abbrev pub invariant-loop-i : goal.invariant-loop-i
invariant-loop-i l = found_from 0 l.saids ≡ l.found.items ++ found_from l.i (drop l.i l.saids)
