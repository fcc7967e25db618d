use Rattle.std.proofs.Common.{◌≡◌, drop}
use Rattle.zy_rounds.specs.Counting.{have_all_blocks}
use Rattle.zy_rounds.proofs.turns.have_all_blocks.Given as goal

abbrev pub invariant-loop-core : goal.invariant-loop-core
invariant-loop-core l = have_all_blocks (drop l.core-index l.cores) ≡ have_all_blocks l.cores
