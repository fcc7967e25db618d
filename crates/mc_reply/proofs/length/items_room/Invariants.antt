use Rattle.std.proofs.Common.{◌≤◌, ◌+◌, Bool, length, drop}
use Rattle.mc_reply.specs.Text.{items_text}
use Rattle.mc_reply.proofs.length.items_room.Given as goal

-- the texts have at most the bytes counted so far, and those of the keys that are left
abbrev pub invariant-loop-at : goal.invariant-loop-at
invariant-loop-at l =
    (asked : Bool) → length (items_text asked l.keys l.replies) ≤ l.total + length (items_text asked (drop l.at l.keys) (drop l.at l.replies))
