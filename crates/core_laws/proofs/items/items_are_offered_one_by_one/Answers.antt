use Rattle.std.proofs.Common.{refl}
use Rattle.zy_feed.proofs.TakenLemmas.{items_for-push, items_for-push_other}
use Rattle.core_laws.proofs.items.items_are_offered_one_by_one.Goals as goal

pub returns : goal.returns
returns c = record { none = λ cores core. refl; here = items_for-push; other = items_for-push_other }
