use Rattle.std.proofs.Common.{◌≡◌, length}
use Rattle.home_tests.proofs.block_parts.offer_text.Given as goal

abbrev pub invariant-loop-frame : goal.invariant-loop-frame
invariant-loop-frame g l = l.inlet.ring ≡ l.fn.inlet.ring

abbrev pub decreases-loop-frame : goal.decreases-loop-frame
decreases-loop-frame g l = length l.frames
