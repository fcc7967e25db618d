use Rattle.zy_outputs.proofs.LineLemmas.{LineIsDoneTo}
use Rattle.zy_outputs.proofs.observing.observe_line.Given as goal

-- the calls of the sessions before this one are added, or something is found
abbrev pub invariant-loop-session : goal.invariant-loop-session
invariant-loop-session l = LineIsDoneTo l.rules l.conn l.line l.outputs l.fn.calls l.calls l.session l.found
