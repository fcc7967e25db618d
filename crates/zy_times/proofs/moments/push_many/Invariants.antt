use Rattle.std.proofs.Common.{◌≡◌, ◌++◌, replicate}
use Rattle.zy_times.proofs.moments.push_many.Given as goal

abbrev pub invariant-loop : goal.invariant-loop
invariant-loop l = l.moments.items ≡ l.fn.moments.items ++ replicate l.counter l.moment
