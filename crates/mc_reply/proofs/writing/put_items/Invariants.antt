use Rattle.std.proofs.Common.{◌≡◌, ◌≤◌, ◌+◌, ◌++◌, length, drop}
use Rattle.mc_reply.specs.Text.{items_text}
use Rattle.mc_reply.proofs.writing.put_items.Given as goal

-- the bytes so far, and those of the keys that are left, are all bytes, and there is room for the
-- latter
abbrev pub invariant-loop-at : goal.invariant-loop-at
invariant-loop-at l =
    (l.out.bytes ++ items_text l.asked (drop l.at l.keys) (drop l.at l.replies) ≡ l.fn.out.bytes ++ items_text l.asked l.keys l.replies)
    × (length (items_text l.asked (drop l.at l.keys) (drop l.at l.replies)) ≤ l.out.room)
    × (l.fn.out.room + length (items_text l.asked (drop l.at l.keys) (drop l.at l.replies)) ≤ l.out.room + length (items_text l.asked l.keys l.replies))
