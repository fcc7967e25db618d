use Rattle.std.proofs.Common.{drop}
use Rattle.mc_answers.specs.Said.{AreFlushed}
use Rattle.mc_answered.proofs.fixed.are_flushed.Given as goal

-- those so far are replies to a flush
abbrev pub invariant-loop-i : goal.invariant-loop-i
invariant-loop-i l = AreFlushed (drop l.i l.saids) → AreFlushed l.saids
