use Rattle.mc_calls.proofs.ReplayLemmas.{IsLegal-push, IsLegal-front, IsLegal-shard, IsLegal-reply}
use Rattle.shard_laws.proofs.lists.a_legal_list_grows_by_a_reply.Goals as goal

pub returns : goal.returns
returns c = record { more = IsLegal-push; front = IsLegal-front; within = IsLegal-shard; reply = IsLegal-reply }
