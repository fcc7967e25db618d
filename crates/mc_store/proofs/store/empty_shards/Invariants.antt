use Rattle.std.proofs.Common.{◌≡◌}
use Rattle.mc_store.specs.Closing.{empties}
use Rattle.mc_store.proofs.store.empty_shards.Given as goal

-- the shards so far
abbrev pub invariant-loop-number : goal.invariant-loop-number
invariant-loop-number l = l.made.items ≡ empties l.shards l.number
