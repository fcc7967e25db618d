use Rattle.mc_calls.specs.Shard.{empty_state}
use Rattle.shard_laws.proofs.KeyLemmas.{replies_agree}
use Rattle.shard_laws.proofs.replies.a_key_depends_on_its_own_calls.Goals as goal

pub returns : goal.returns
returns c = record {
  alone = λ shards number shards' number' key calls calls' without without' same. replies_agree shards number shards' number' empty_state key calls calls' without without' same;
}
