use Rattle.std.proofs.Common.{◌≡◌, ◌≤◌, ◌+◌, ◌++◌, length, drop}
use Rattle.mc_reply.specs.MetaText.{marks_text}
use Rattle.mc_reply.proofs.marks.put_marks.Given as goal

-- the bytes so far, and those of the letters that are left, are all bytes, and there is room for the latter
abbrev pub invariant-loop-at : goal.invariant-loop-at
invariant-loop-at l =
    (l.out.bytes ++ marks_text l.key l.found (drop l.at l.letters) ≡ l.fn.out.bytes ++ marks_text l.key l.found l.letters)
    × (length (marks_text l.key l.found (drop l.at l.letters)) ≤ l.out.room)
    × (l.fn.out.room + length (marks_text l.key l.found (drop l.at l.letters)) ≤ l.out.room + length (marks_text l.key l.found l.letters))
