use Rattle.std.proofs.Common.{◌≡◌}
use Rattle.zy_steal.specs.Steal.{ArePasses}
use Rattle.thread_tests.proofs.thieves.rob.Given as goal

abbrev pub invariant-loop : goal.invariant-loop
invariant-loop g l =
    (goal.iterator-loop g).can_next l.iterator' × (goal.iterator-loop g).is_finite l.iterator'
    × ArePasses l.fn.rings l.passes × (l.passes.core ≡ 1) × (l.victims.core ≡ 1) × (l.victims.cores ≡ 2)
