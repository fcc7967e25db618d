use Rattle.std.proofs.Common.{refl}
use Rattle.mc_calls.proofs.EntryLemmas.{replies_at-here, replies_at-other}
use Rattle.shard_laws.proofs.lists.a_command_has_its_replies.Goals as goal

pub returns : goal.returns
returns c = record { none = λ index. refl; here = replies_at-here; other = replies_at-other }
