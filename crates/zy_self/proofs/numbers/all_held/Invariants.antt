use Rattle.std.proofs.Common.{◌≡◌, take}
use Rattle.zy_self.specs.Numbers.{all_held}
use Rattle.zy_self.proofs.numbers.all_held.Given as goal

abbrev pub invariant-loop-at : goal.invariant-loop-at
invariant-loop-at l = l.total ≡ all_held (take l.at l.holds)
