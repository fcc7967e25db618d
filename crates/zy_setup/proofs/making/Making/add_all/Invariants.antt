use Rattle.std.specs.Vec.Iter.{into_iter_items}
use Rattle.zy_setup.specs.Progress.{HasMadeCores}
use Rattle.zy_setup.proofs.making.Making.add_all.Given as goal

-- of the homes before this one, cores were made
abbrev pub invariant-loop-home : goal.invariant-loop-home
invariant-loop-home l =
    (goal.iterator-loop-home).can_next l.home-iterator ×
    (goal.iterator-loop-home).is_finite l.home-iterator ×
    HasMadeCores l.fn.shared l.fn.homes.items l.fn.passes.items l.self (into_iter_items l.home-iterator) l.passes.items
