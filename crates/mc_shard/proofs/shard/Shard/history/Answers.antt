use Rattle.mc_calls.proofs.ReplayLemmas.{counts_calls}
use Rattle.mc_shard.proofs.shard.Shard.history.Goals as goal

pub returns-clause-count : goal.returns-clause-count
returns-clause-count c = counts_calls _ _ _
