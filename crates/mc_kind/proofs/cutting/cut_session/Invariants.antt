use Rattle.mc_kind.proofs.CutLemmas.{KnowsTo}
use Rattle.mc_kind.proofs.cutting.cut_session.Given as goal

-- each cut has the texts that were found, and leaves one of what is left
abbrev pub invariant-loop-index : goal.invariant-loop-index
invariant-loop-index l = KnowsTo l.commands l.output l.index l.at l.texts.items
