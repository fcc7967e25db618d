use Rattle.zy_refute.specs.Unmet.{AreNoSources}
use Rattle.zy_refute.proofs.sources.have_no_source.Given as goal

-- none of the calls so far is a source
abbrev pub invariant-loop-at : goal.invariant-loop-at
invariant-loop-at l = AreNoSources l.store l.calls l.fact l.reader l.at
