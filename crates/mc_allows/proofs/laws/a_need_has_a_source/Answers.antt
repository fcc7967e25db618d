use Rattle.mc_allows.proofs.TurnLemmas.{has_last_turn}
use Rattle.mc_allows.proofs.laws.a_need_has_a_source.Goals as goal

pub returns : goal.returns
returns c = record { turn = has_last_turn }
