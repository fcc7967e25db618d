use Rattle.shard_laws.proofs.UniqueLemmas.{uniques_rise_from_empty}
use Rattle.shard_laws.proofs.uniques.uniques_of_a_shard_rise.Goals as goal

pub returns : goal.returns
returns c = record { rise = λ shards number es legal. uniques_rise_from_empty shards number es legal }
