use Rattle.std.proofs.Common.{ℕ, ◌<◌}
use Rattle.zy_check.specs.Given.{IsHeld}
use Rattle.zy_check.proofs.holds.first_unheld.Given as goal

abbrev pub invariant-loop-conn : goal.invariant-loop-conn
invariant-loop-conn l = (c : ℕ) → c < l.conn → IsHeld l.files c
