use Rattle.mc_answers.proofs.OutputLemmas.{output_cut}
use Rattle.mc_answers.proofs.answers.an_output_has_one_cut.Goals as goal

pub returns : goal.returns
returns c = record { value = output_cut }
