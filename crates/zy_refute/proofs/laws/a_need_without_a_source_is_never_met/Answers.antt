use Rattle.zy_refute.proofs.UnmetLemmas.{never_met, none_in_order}
use Rattle.zy_refute.proofs.laws.a_need_without_a_source_is_never_met.Goals as goal

pub returns : goal.returns
returns c = record { never = never_met; none = none_in_order }
