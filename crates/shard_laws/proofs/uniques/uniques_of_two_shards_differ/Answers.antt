use Rattle.mc_calls.specs.Shard.{empty_state}
use Rattle.shard_laws.proofs.UniqueLemmas.{uniques_are_of, of_one_shard}
use Rattle.shard_laws.proofs.uniques.uniques_of_two_shards_differ.Goals as goal

pub returns : goal.returns
returns c = record {
  differ = λ shards a b unique es legal of_a of_b. of_one_shard shards a b unique
      (uniques_are_of shards a unique (λ _. empty_state) es legal of_a) (uniques_are_of shards b unique (λ _. empty_state) es legal of_b);
}
