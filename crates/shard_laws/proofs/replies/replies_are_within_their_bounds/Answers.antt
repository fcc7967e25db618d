use Rattle.mc_calls.proofs.ReplyLemmas.{replies_within}
use Rattle.shard_laws.proofs.replies.replies_are_within_their_bounds.Goals as goal

pub returns : goal.returns
returns c = record { each = replies_within }
