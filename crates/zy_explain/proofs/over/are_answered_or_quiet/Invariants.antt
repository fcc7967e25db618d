use Rattle.zy_explain.proofs.OverLemmas.{AreDoneTo}
use Rattle.zy_explain.proofs.over.are_answered_or_quiet.Given as goal

-- the first commands are answered, or ask for no answer
abbrev pub invariant-loop-index : goal.invariant-loop-index
invariant-loop-index l = AreDoneTo l.commands l.answered l.index
