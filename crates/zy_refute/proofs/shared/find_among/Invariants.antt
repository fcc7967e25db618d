use Rattle.zy_refute.specs.Shared.{IsRefutationOfApart}
use Rattle.zy_refute.proofs.shared.find_among.Given as goal

-- a call that was found so far refutes the calls
abbrev pub invariant-loop-at : goal.invariant-loop-at
invariant-loop-at l = IsRefutationOfApart l.store l.calls l.found
