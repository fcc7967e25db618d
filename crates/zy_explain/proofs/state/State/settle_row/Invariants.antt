use Rattle.zy_explain.specs.Following.{KeepsStanding}
use Rattle.zy_explain.proofs.state.State.settle_row.Given as goal

abbrev pub invariant-loop-number : goal.invariant-loop-number
invariant-loop-number l = KeepsStanding l.rules l.sessions l.outputs.sessions l.fn.self l.self
