use Rattle.zy_outputs.proofs.LineLemmas.{LinesAreDoneTo}
use Rattle.zy_outputs.proofs.observing.observe_lines.Given as goal

-- the calls of the connections before this one are added, or something is found
abbrev pub invariant-loop-conn : goal.invariant-loop-conn
invariant-loop-conn l = LinesAreDoneTo l.rules l.lines l.outputs l.fn.calls l.calls l.conn l.found
