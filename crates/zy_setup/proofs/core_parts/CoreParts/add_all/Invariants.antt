use Rattle.std.proofs.Common.{◌≡◌, ◌+◌, ℕ, Some, slice_get, length}
use Rattle.std.specs.Vec.Iter.{into_iter_items}
use Rattle.zy_setup.specs.declared.own_connections.OwnConnections.{OwnConnections}
use Rattle.zy_setup.specs.Make.{AreMade, IsOwnOf}
use Rattle.zy_setup.proofs.core_parts.CoreParts.add_all.Given as goal

-- the first cores are made, and the connections of the others are left
abbrev pub invariant-loop-own : goal.invariant-loop-own
invariant-loop-own l =
    (goal.iterator-loop-own).can_next l.own-iterator ×
    (goal.iterator-loop-own).is_finite l.own-iterator ×
    AreMade l.store.id l.cores l.count l.self ×
    (length l.self.homes.items + length (into_iter_items l.own-iterator) ≡ l.cores) ×
    ((k : ℕ) (own : OwnConnections) → slice_get (into_iter_items l.own-iterator) k ≡ Some own → IsOwnOf l.store.id (length l.self.homes.items + k) l.cores l.count own)
