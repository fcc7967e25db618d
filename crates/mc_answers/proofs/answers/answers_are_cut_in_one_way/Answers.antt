use Rattle.mc_answers.proofs.AnswerLemmas.{answer_cut, answer_free, answers_cut, answers_first, short_end}
use Rattle.mc_answers.proofs.answers.answers_are_cut_in_one_way.Goals as goal

pub returns : goal.returns
returns c = record { free = answer_free; one = answer_cut; all = answers_cut; fewer = answers_first; short = short_end }
