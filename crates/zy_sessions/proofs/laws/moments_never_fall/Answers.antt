use Rattle.zy_sessions.proofs.MomentLemmas.{sent_in_order, marks_in_order}
use Rattle.zy_sessions.proofs.laws.moments_never_fall.Goals as goal

pub returns : goal.returns
returns c = record {
  sent = λ records conn session s h p q first last is_first is_last order. sent_in_order records conn session s h p q first last is_first is_last order;
  marks = λ records conn session s h p q first last is_first is_last order. marks_in_order records conn session s h p q first last is_first is_last order;
}
