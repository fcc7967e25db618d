use Rattle.std.proofs.Common.{◌≡◌, ◌≤◌, ◌*◌, ◌^◌, take}
use Rattle.mc_reply.specs.StatsText.{sum_in}
use Rattle.mc_reply.proofs.stats.sum_of.Given as goal

-- the sum over the replies so far
abbrev pub invariant-loop-at : goal.invariant-loop-at
invariant-loop-at l = (l.sum ≡ sum_in l.stat (take l.at l.replies)) × (l.sum ≤ l.at * 2 ^ 64)
