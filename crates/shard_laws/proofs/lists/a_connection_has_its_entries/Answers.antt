use Rattle.std.proofs.Common.{refl}
use Rattle.mc_calls.proofs.EntryLemmas.{of_connection-here, of_connection-other}
use Rattle.shard_laws.proofs.lists.a_connection_has_its_entries.Goals as goal

pub returns : goal.returns
returns c = record { none = λ connection. refl; here = of_connection-here; other = of_connection-other }
