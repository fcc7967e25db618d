use Rattle.std.proofs.Common.{length}
use Rattle.mc_answered.proofs.FoundLemmas.{AreTaken}
use Rattle.mc_answered.proofs.any_order.length_in_any_order.Given as goal

-- fewer items are left
abbrev pub decreases-loop-left : goal.decreases-loop-left
decreases-loop-left l = length l.left.items

-- the items so far were found, and the others are left
abbrev pub invariant-loop-left : goal.invariant-loop-left
invariant-loop-left l = AreTaken l.asked l.keys l.saids l.bytes l.left.items l.at
