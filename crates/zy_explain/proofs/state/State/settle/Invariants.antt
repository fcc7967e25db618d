use Rattle.zy_explain.specs.Following.{KeepsStanding}
use Rattle.zy_explain.proofs.state.State.settle.Given as goal

abbrev pub invariant-loop-conn : goal.invariant-loop-conn
invariant-loop-conn l = KeepsStanding l.rules l.sessions l.outputs.sessions l.fn.self l.self
