use Rattle.zy_refute.specs.Unmet.{IsRefutation}
use Rattle.zy_refute.proofs.unmet.find_unmet.Given as goal

-- a call that was found so far refutes the calls
abbrev pub invariant-loop-at : goal.invariant-loop-at
invariant-loop-at l = IsRefutation l.store l.calls l.found
