use Rattle.mc_answers.proofs.CutLemmas.{lines_cut}
use Rattle.mc_answers.proofs.cuts.lines_are_cut_in_one_way.Goals as goal

pub returns : goal.returns
returns c = record { line = lines_cut }
