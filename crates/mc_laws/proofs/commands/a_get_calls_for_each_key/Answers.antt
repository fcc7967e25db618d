use Rattle.mc_laws.proofs.CallLemmas.{asked_by-gets}
use Rattle.mc_laws.proofs.commands.a_get_calls_for_each_key.Goals as goal

pub returns : goal.returns
returns c = record { value = λ shards keys unique. asked_by-gets shards keys }
