use Rattle.mc_allows.proofs.TurnLemmas.{makers_are_new}
use Rattle.mc_allows.proofs.laws.a_source_is_not_shared.Goals as goal

pub returns : goal.returns
returns c = record { new = makers_are_new }
