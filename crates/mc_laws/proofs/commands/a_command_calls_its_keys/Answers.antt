use Rattle.mc_laws.proofs.KeyLemmas.{keys-calls_of}
use Rattle.mc_laws.proofs.commands.a_command_calls_its_keys.Goals as goal

pub returns : goal.returns
returns c = record { value = keys-calls_of }
