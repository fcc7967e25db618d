use Rattle.zy_outputs.specs.Texts.{IsSureBelow}
use Rattle.zy_outputs.proofs.texts.sure_below.Given as goal

-- the last answered command so far is known
abbrev pub invariant-loop-index : goal.invariant-loop-index
invariant-loop-index l = IsSureBelow l.texts l.sure
