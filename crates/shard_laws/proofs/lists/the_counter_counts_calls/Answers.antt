use Rattle.mc_calls.proofs.ReplayLemmas.{counts_calls}
use Rattle.shard_laws.proofs.lists.the_counter_counts_calls.Goals as goal

pub returns : goal.returns
returns c = record { count = counts_calls }
