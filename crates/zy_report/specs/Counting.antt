-- What contracts see of what is counted of the entries of one shard. No public clause cites this module.
use Rattle.std.specs.Prelude.{ℕ, List}
use Rattle.mc_stats.specs.declared.counts.Counts.{Counts}

-- the counts of calls, and the keys that have an item, each once
pub record Counting : Type 0 where
  pub calls : Counts
  pub keys : List (List ℕ)
