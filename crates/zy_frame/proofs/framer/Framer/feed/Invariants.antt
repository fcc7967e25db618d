use Rattle.std.proofs.Common.{◌≤◌, ◌-◌, length}
use Rattle.zy_frame.specs.Steps.{Gives}
use Rattle.zy_frame.proofs.framer.Framer.feed.Given as goal

abbrev pub invariant-loop-at : goal.invariant-loop-at
invariant-loop-at l = (l.at ≤ length l.piece) × Gives l.fn.self l.self l.fn.frames l.frames l.piece l.at

abbrev pub decreases-loop-at : goal.decreases-loop-at
decreases-loop-at l = length l.piece - l.at
