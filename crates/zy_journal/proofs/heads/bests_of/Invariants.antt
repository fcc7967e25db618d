use Rattle.std.proofs.Common.{◌≡◌, ℕ, List, ◌+◌, ◌*◌, ◌<◌, ◌≤◌, ◌-◌, length, get_or}
use Rattle.std.specs.Prelude.{None}
use Rattle.mc_calls.specs.declared.entry.Entry.{Entry}
use Rattle.zy_journal.specs.Walk.{AreQuads, IsBest}
use Rattle.zy_journal.proofs.heads.bests_of.Given as goal

-- the best of each group so far
abbrev pub invariant-loop-group : goal.invariant-loop-group
invariant-loop-group l = record {
  bests : (rests : List (List Entry)) → AreQuads rests l.quads → (g : ℕ) → g < l.group → IsBest rests (16 * g) (16 * g + 16) (get_or l.bests g None);
  size : length l.bests ≡ 16;
  within : l.group ≤ 16;
}

abbrev pub decreases-loop-group : goal.decreases-loop-group
decreases-loop-group l = 16 - l.group
