use Rattle.std.proofs.Common.{refl}
use Rattle.mc_calls.proofs.EntryLemmas.{at_shard-here, at_shard-other}
use Rattle.shard_laws.proofs.lists.a_shard_has_its_entries.Goals as goal

pub returns : goal.returns
returns c = record { none = λ shard. refl; here = at_shard-here; other = at_shard-other }
