use Rattle.zy_sessions.proofs.OtherLemmas.{noted, others_have_nothing}
use Rattle.zy_sessions.proofs.laws.a_session_not_noted_has_nothing.Goals as goal

pub returns : goal.returns
returns c = record {
  noted = λ sessions count records h conn session s is. noted sessions count records h conn session s is;
  none = λ sessions count records h conn session is. others_have_nothing sessions count records h conn session is;
}
