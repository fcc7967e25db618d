use Rattle.std.proofs.Common.{◌≡◌, ◌+◌, ◌<◌, take, drop, vec_len}
use Rattle.zy_deal.specs.Deal.{lists_of, Deals, HaveRoom}
use Rattle.zy_deal.proofs.dealing.deal.Given as goal

abbrev pub invariant-loop : goal.invariant-loop
invariant-loop g l =
    (vec_len l.items + l.counter ≡ l.end) × (vec_len l.groups ≡ vec_len l.initial.groups) × (0 < vec_len l.groups)
    × HaveRoom (vec_len l.items) l.groups.items
    × (l.items.items ≡ take (vec_len l.items) l.fn.items.items)
    × Deals (lists_of l.groups.items) (drop (vec_len l.items) l.fn.items.items)
