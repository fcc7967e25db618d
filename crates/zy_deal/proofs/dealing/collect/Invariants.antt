use Rattle.std.proofs.Common.{◌≡◌, ◌+◌, ◌-◌, ◌≤◌, ◌++◌, vec_len}
use Rattle.std.specs.Prelude.{vec_capacity}
use Rattle.zy_deal.specs.Deal.{lists_of, gathered}
use Rattle.zy_deal.proofs.dealing.collect.Given as goal

abbrev pub invariant-loop : goal.invariant-loop
invariant-loop g l =
    (vec_len l.back + l.count ≤ vec_capacity l.back + l.counter)
    × (l.back.items ++ gathered (l.count - l.counter) (lists_of l.groups.items) ≡ l.initial.back.items ++ gathered l.count (lists_of l.fn.groups.items))
