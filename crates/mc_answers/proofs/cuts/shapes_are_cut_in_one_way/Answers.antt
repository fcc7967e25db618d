use Rattle.mc_answers.proofs.AnswerLemmas.{shape_cut}
use Rattle.mc_answers.proofs.cuts.shapes_are_cut_in_one_way.Goals as goal

pub returns : goal.returns
returns c = record { shape = shape_cut }
