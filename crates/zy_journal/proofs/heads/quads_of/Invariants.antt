use Rattle.std.proofs.Common.{◌≡◌, ℕ, List, ◌+◌, ◌*◌, ◌<◌, ◌≤◌, ◌-◌, length, get_or}
use Rattle.std.specs.Prelude.{None}
use Rattle.mc_calls.specs.declared.entry.Entry.{Entry}
use Rattle.zy_journal.specs.Walk.{AreHeads, IsBest}
use Rattle.zy_journal.proofs.heads.quads_of.Given as goal

-- the best of each four so far
abbrev pub invariant-loop-quad : goal.invariant-loop-quad
invariant-loop-quad l = record {
  quads : (rests : List (List Entry)) → AreHeads rests l.heads → (g : ℕ) → g < l.quad → IsBest rests (4 * g) (4 * g + 4) (get_or l.quads g None);
  size : length l.quads ≡ 64;
  within : l.quad ≤ 64;
}

abbrev pub decreases-loop-quad : goal.decreases-loop-quad
decreases-loop-quad l = 64 - l.quad
