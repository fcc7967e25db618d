-- The proof of the law `runs_apart_have_the_same_outputs`.
use Rattle.zy_run.proofs.RunLemmas.{all_outputs-same}
use Rattle.run_laws.proofs.runs.runs_apart_have_the_same_outputs.Goals as goal

pub returns : goal.returns
returns c = record { same = all_outputs-same }
