use Rattle.mc_allows.proofs.JoinLemmas.{appends_to_rest, prepends_to_rest}
use Rattle.mc_allows.proofs.laws.a_join_has_a_rest.Goals as goal

pub returns : goal.returns
returns c = record { appends = appends_to_rest; prepends = prepends_to_rest }
