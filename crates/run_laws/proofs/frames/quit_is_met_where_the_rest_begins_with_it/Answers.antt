use Rattle.run_laws.proofs.CutLemmas.{quit_exactly}
use Rattle.run_laws.proofs.frames.quit_is_met_where_the_rest_begins_with_it.Goals as goal

pub returns : goal.returns
returns c = record { law = quit_exactly }
