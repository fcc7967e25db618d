use Rattle.std.specs.Prelude.{codes}
use Rattle.mc_answers.specs.Kinds.{IsLineWith}
use Rattle.mc_kind.proofs.SeriesLemmas.{AreItems}
use Rattle.mc_kind.proofs.counts.first_counts.Given as goal

-- the bytes so far are lines of counts
abbrev pub invariant-loop : goal.invariant-loop
invariant-loop l = AreItems (IsLineWith (codes "STAT ")) l.bytes l.at
