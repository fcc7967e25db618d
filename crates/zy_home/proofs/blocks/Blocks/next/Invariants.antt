use Rattle.std.proofs.Common.{◌≡◌, length}
use Rattle.zy_home.specs.End.{blocks_in}
use Rattle.zy_home.proofs.blocks.Blocks.next.Given as goal

abbrev pub invariant-loop-slot : goal.invariant-loop-slot
invariant-loop-slot l = blocks_in l.self-inside.slots.items ≡ l.fn.self

abbrev pub decreases-loop-slot : goal.decreases-loop-slot
decreases-loop-slot l = length l.self-inside.slots.items
