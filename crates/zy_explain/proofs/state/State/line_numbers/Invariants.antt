use Rattle.zy_explain.specs.Ending.{AreLineNumbers}
use Rattle.zy_explain.proofs.state.State.line_numbers.Given as goal

abbrev pub invariant-loop-number : goal.invariant-loop-number
invariant-loop-number l = AreLineNumbers l.sessions l.outputs.sessions l.self.rows.items l.conn l.number l.all
