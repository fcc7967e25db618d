use Rattle.mc_calls.proofs.MergeLemmas.{merge_is_one}
use Rattle.shard_laws.proofs.merges.histories_have_one_merge.Goals as goal

pub returns : goal.returns
returns c = record { same = merge_is_one }
