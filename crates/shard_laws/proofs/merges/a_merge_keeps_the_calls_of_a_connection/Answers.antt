use Rattle.mc_calls.proofs.MergeLemmas.{merge_keeps_calls}
use Rattle.shard_laws.proofs.merges.a_merge_keeps_the_calls_of_a_connection.Goals as goal

pub returns : goal.returns
returns c = record { calls = merge_keeps_calls }
