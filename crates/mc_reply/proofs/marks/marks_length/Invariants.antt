use Rattle.std.proofs.Common.{◌≡◌, ◌+◌, length, drop}
use Rattle.mc_reply.specs.MetaText.{marks_text}
use Rattle.mc_reply.proofs.marks.marks_length.Given as goal

-- the bytes counted so far, and those of the letters that are left, are all bytes
abbrev pub invariant-loop-at : goal.invariant-loop-at
invariant-loop-at l = l.total + length (marks_text l.key l.found (drop l.at l.letters)) ≡ length (marks_text l.key l.found l.letters)
