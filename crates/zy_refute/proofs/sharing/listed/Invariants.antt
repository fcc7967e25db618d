use Rattle.zy_refute.specs.Shared.{AreSources}
use Rattle.zy_refute.proofs.sharing.listed.Given as goal

-- the calls so far that may be sources are listed
abbrev pub invariant-loop-at : goal.invariant-loop-at
invariant-loop-at l = AreSources l.store l.calls l.fact l.readers l.sources.items l.at
