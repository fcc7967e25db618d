use Rattle.std.proofs.Common.{ℕ, ◌<◌}
use Rattle.zy_check.specs.Given.{IsOutput}
use Rattle.zy_check.proofs.outputs.first_output.Given as goal

abbrev pub invariant-loop-conn : goal.invariant-loop-conn
invariant-loop-conn l = (c s : ℕ) → c < l.conn → IsOutput l.files c s
