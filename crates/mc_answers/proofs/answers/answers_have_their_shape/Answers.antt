use Rattle.mc_answers.proofs.AnswerLemmas.{some_shaped}
use Rattle.mc_answers.proofs.answers.answers_have_their_shape.Goals as goal

pub returns : goal.returns
returns c = record { value = some_shaped }
