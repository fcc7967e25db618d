use Rattle.mc_calls.proofs.KeyLemmas.{told-reply_to}
use Rattle.shard_laws.proofs.replies.steady_calls_tell_no_other_unique.Goals as goal

pub returns : goal.returns
returns c = record { reply = told-reply_to }
