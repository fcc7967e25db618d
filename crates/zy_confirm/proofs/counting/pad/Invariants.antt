use Rattle.std.proofs.Common.{◌≡◌, ◌++◌, replicate}
use Rattle.zy_confirm.proofs.counting.pad.Given as goal

abbrev pub invariant-loop : goal.invariant-loop
invariant-loop l = l.value ≡ l.fn.value ++ replicate l.counter 32
