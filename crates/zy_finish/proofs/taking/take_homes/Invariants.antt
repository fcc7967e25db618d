use Rattle.std.proofs.Common.{◌≡◌, ◌≤◌, ◌+◌, ◌++◌, length}
use Rattle.std.specs.Prelude.{vec_capacity}
use Rattle.std.specs.Vec.Iter.{into_iter_items}
use Rattle.zy_core.specs.Cores.{identities, homes_of}
use Rattle.zy_core.specs.Running.{rings_in}
use Rattle.zy_rx.specs.Feed.{rings_of}
use Rattle.zy_finish.specs.Shown.{HaveShown}
use Rattle.zy_finish.proofs.taking.take_homes.Given as goal

-- the homes of the cores before this one, and the cores to come, with their inlets
abbrev pub invariant-loop-inlet : goal.invariant-loop-inlet
invariant-loop-inlet l =
    (goal.iterator-loop-inlet).can_next l.inlet-iterator ×
    (goal.iterator-loop-inlet).is_finite l.inlet-iterator ×
    (rings_of (into_iter_items l.inlet-iterator) ≡ rings_in (identities l.cores)) ×
    (l.homes.items ++ homes_of l.cores ≡ homes_of l.fn.cores) ×
    (length l.homes.items + length (into_iter_items l.inlet-iterator) ≤ vec_capacity l.homes) ×
    (HaveShown (into_iter_items l.inlet-iterator) l.cores → HaveShown l.fn.inlets.items l.fn.cores)
