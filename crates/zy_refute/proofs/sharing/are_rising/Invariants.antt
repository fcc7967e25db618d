use Rattle.std.proofs.Common.{ℕ, ◌<◌, ◌+◌, slice_index}
use Rattle.zy_refute.proofs.sharing.are_rising.Given as goal

-- each place so far is less than the next
abbrev pub invariant-loop-at : goal.invariant-loop-at
invariant-loop-at l = (k : ℕ) → k + 1 < l.at → slice_index l.readers k < slice_index l.readers (k + 1)
