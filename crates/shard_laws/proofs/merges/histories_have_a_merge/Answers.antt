use Rattle.shard_laws.proofs.MergingLemmas.{merge_exists}
use Rattle.shard_laws.proofs.merges.histories_have_a_merge.Goals as goal

pub returns : goal.returns
returns c = record { some = merge_exists }
