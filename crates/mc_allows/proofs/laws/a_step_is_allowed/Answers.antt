use Rattle.mc_allows.proofs.StepLemmas.{step_allowed}
use Rattle.mc_allows.proofs.laws.a_step_is_allowed.Goals as goal

pub returns : goal.returns
returns c = record { step = step_allowed }
