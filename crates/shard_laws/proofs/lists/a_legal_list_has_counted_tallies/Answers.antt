use Rattle.shard_laws.proofs.AnsweredLemmas.{legal_answered, answered_legal}
use Rattle.shard_laws.proofs.lists.a_legal_list_has_counted_tallies.Goals as goal

pub returns : goal.returns
returns c = record { answered = legal_answered; legal = answered_legal }
