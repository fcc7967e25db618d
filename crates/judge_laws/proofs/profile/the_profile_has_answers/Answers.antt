use Rattle.judge_laws.proofs.ProfileLemmas.{text_is_answer}
use Rattle.judge_laws.proofs.profile.the_profile_has_answers.Goals as goal

pub returns : goal.returns
returns c = record { answer = text_is_answer }
