use Rattle.std.proofs.Common.{◌≡◌, ◌≤◌, vec_len}
use Rattle.std.specs.Prelude.{vec_capacity}
use Rattle.zy_deal.specs.Deal.{lists_of, AreEmpty, HaveRoom}
use Rattle.zy_deal.proofs.dealing.empty_groups.Given as goal

abbrev pub invariant-loop : goal.invariant-loop
invariant-loop g l =
    (vec_len l.made ≡ l.counter) × (l.groups ≤ vec_capacity l.made)
    × HaveRoom l.room l.made.items × AreEmpty (lists_of l.made.items)
