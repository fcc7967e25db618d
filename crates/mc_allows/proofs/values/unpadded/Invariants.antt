use Rattle.std.proofs.Common.{◌≡◌, ◌≤◌, length, take}
use Rattle.mc_allows.specs.Values as Values
use Rattle.mc_allows.proofs.values.unpadded.Given as goal

-- what was passed from the end is spaces
abbrev pub invariant-loop-end : goal.invariant-loop-end
invariant-loop-end l = (l.end ≤ length l.value) × (Values.unpadded (take l.end l.value) ≡ Values.unpadded l.value)

abbrev pub decreases-loop-end : goal.decreases-loop-end
decreases-loop-end l = l.end
