use Rattle.zy_explain.specs.Ending.{AreNumbers}
use Rattle.zy_explain.proofs.state.State.numbers.Given as goal

abbrev pub invariant-loop-conn : goal.invariant-loop-conn
invariant-loop-conn l = AreNumbers l.sessions l.outputs.sessions l.self.rows.items l.conn l.all
