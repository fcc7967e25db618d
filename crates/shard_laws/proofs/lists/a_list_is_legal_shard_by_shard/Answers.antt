use Rattle.mc_calls.specs.Shard.{empty_state}
use Rattle.mc_calls.proofs.LegalLemmas.{legal_below, legal_parts, legal_whole}
use Rattle.shard_laws.proofs.lists.a_list_is_legal_shard_by_shard.Goals as goal

pub returns-clause-parts : goal.returns-clause-parts
returns-clause-parts c = λ shards es legal. (
  legal_below shards (λ number. empty_state) es legal,
  legal_parts shards (λ number. empty_state) es legal,
)

pub returns-clause-whole : goal.returns-clause-whole
returns-clause-whole c = λ shards es below parts. legal_whole shards (λ number. empty_state) es below parts
