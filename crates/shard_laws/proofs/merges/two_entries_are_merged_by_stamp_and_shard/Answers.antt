use Rattle.shard_laws.proofs.MergingLemmas.{merge_lower, merge_level}
use Rattle.shard_laws.proofs.merges.two_entries_are_merged_by_stamp_and_shard.Goals as goal

pub returns : goal.returns
returns c = record { lower = merge_lower; level = merge_level }
