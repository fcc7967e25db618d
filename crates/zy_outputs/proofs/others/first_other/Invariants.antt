use Rattle.zy_outputs.specs.Others.{AreFollowed}
use Rattle.zy_outputs.proofs.others.first_other.Given as goal

-- the commands before this one are followed
abbrev pub invariant-loop-index : goal.invariant-loop-index
invariant-loop-index l = AreFollowed l.commands l.silent l.from l.index
