use Rattle.mc_calls.proofs.MergeLemmas.{merge_is_legal, merge_is_below}
use Rattle.shard_laws.proofs.merges.a_merge_of_histories_is_legal.Goals as goal

pub returns : goal.returns
returns c = record { legal = merge_is_legal; limit = merge_is_below }
