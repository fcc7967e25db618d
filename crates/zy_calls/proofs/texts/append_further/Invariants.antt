use Rattle.std.proofs.Common.{◌≡◌, ◌+◌, ◌++◌, vec_len, vec_capacity, take}
use Rattle.zy_calls.specs.Texts.{further}
use Rattle.zy_calls.proofs.texts.append_further.Given as goal

-- the places so far come after those that were there, and the reserved room suffices
abbrev pub invariant-loop-other : goal.invariant-loop-other
invariant-loop-other l =
    (l.ends.items ≡ l.fn.ends.items ++ further l.start (take l.other-index l.others))
    × (vec_len l.ends ≡ vec_len l.fn.ends + l.other-index)
    × (vec_capacity l.ends ≡ vec_capacity l.fn.ends)
