use Rattle.mc_calls.specs.Shard.{empty_state}
use Rattle.mc_calls.proofs.KindLemmas.{reply_answers}
use Rattle.shard_laws.proofs.KindLemmas.{replay_answers, legal_answers}
use Rattle.shard_laws.proofs.replies.replies_are_of_the_table.Goals as goal

pub returns : goal.returns
returns c = record {
  one = reply_answers;
  replay = replay_answers;
  legal = λ shards es legal. legal_answers shards (λ number. empty_state) es legal;
}
