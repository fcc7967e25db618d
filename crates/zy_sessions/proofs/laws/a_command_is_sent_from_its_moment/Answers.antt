use Rattle.zy_sessions.proofs.MomentLemmas.{sent_size, sent_from, marked_from}
use Rattle.zy_sessions.proofs.laws.a_command_is_sent_from_its_moment.Goals as goal

pub returns : goal.returns
returns c = record {
  each = λ records conn session s h. sent_size records conn session s h;
  sent = λ records conn session s h index at moment is. sent_from records conn session s h index at moment is;
  marks = λ records conn session s h number at moment is. marked_from records conn session s h number at moment is;
}
