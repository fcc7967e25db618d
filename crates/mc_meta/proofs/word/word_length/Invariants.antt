use Rattle.std.proofs.Common.{◌-◌, ◌≤◌, length}
use Rattle.mc_meta.proofs.WordLemmas.{IsWordTo}
use Rattle.mc_meta.proofs.word.word_length.Given as goal

-- the bytes so far begin the text's first piece
abbrev pub invariant-loop-start : goal.invariant-loop-start
invariant-loop-start l = (l.start ≤ length l.text) × IsWordTo l.text l.start

abbrev pub decreases-loop-start : goal.decreases-loop-start
decreases-loop-start l = length l.text - l.start

abbrev pub invariant-loop-at : goal.invariant-loop-at
invariant-loop-at l = IsWordTo l.text l.at
