use Rattle.std.proofs.Common.{◌≡◌, take}
use Rattle.zy_run.specs.Summary.{count_of_bytes}
use Rattle.zy_self.proofs.numbers.all_bytes.Given as goal

abbrev pub invariant-loop-conn : goal.invariant-loop-conn
invariant-loop-conn l = l.total ≡ count_of_bytes (take l.conn l.outputs.sessions)
