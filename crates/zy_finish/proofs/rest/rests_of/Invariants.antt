use Rattle.std.proofs.Common.{◌≡◌, ◌≤◌, ◌+◌, ◌++◌, map, length}
use Rattle.std.specs.Prelude.{vec_capacity}
use Rattle.std.specs.List.{AllByRecursion}
use Rattle.std.specs.Vec.Iter.{into_iter_items}
use Rattle.zy_home.specs.Home.{IsSoundHome}
use Rattle.zy_finish.specs.Rest.{rest_of_home}
use Rattle.zy_finish.proofs.rest.rests_of.Given as goal

-- what is left of the homes before this one, and the homes to come
abbrev pub invariant-loop-home : goal.invariant-loop-home
invariant-loop-home l =
    (goal.iterator-loop-home).can_next l.home-iterator ×
    (goal.iterator-loop-home).is_finite l.home-iterator ×
    (l.rests.items ++ map rest_of_home (into_iter_items l.home-iterator) ≡ map rest_of_home l.fn.homes.items) ×
    (length l.rests.items + length (into_iter_items l.home-iterator) ≤ vec_capacity l.rests) ×
    (AllByRecursion IsSoundHome (into_iter_items l.home-iterator) → AllByRecursion IsSoundHome l.fn.homes.items)
