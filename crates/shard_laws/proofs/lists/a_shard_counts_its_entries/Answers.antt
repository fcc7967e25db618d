use Rattle.mc_calls.specs.Shard.{empty_state}
use Rattle.mc_calls.specs.Order.{at_shard}
use Rattle.mc_calls.proofs.LegalLemmas.{legal_parts}
use Rattle.mc_calls.proofs.CountedLemmas.{tallied-replayed}
use Rattle.shard_laws.proofs.AnsweredLemmas.{items-counted}
use Rattle.shard_laws.proofs.lists.a_shard_counts_its_entries.Goals as goal

pub returns : goal.returns
returns c = record {
  replay = tallied-replayed;
  items = λ shards number es legal. items-counted shards number (at_shard number es) (legal_parts shards (λ number. empty_state) es legal number);
}
