use Rattle.mc_parse.proofs.CallLemmas.{all_within}
use Rattle.mc_laws.proofs.CallLemmas.{all_at_keys}
use Rattle.mc_laws.proofs.commands.calls_are_at_their_keys.Goals as goal

pub returns-clause-value : goal.returns-clause-value
returns-clause-value c = all_at_keys

pub returns-clause-within : goal.returns-clause-within
returns-clause-within c = all_within
