use Rattle.zy_feed.proofs.TakenLemmas.{none_left, all_taken}
use Rattle.core_laws.proofs.items.all_that_was_offered_is_taken.Goals as goal

pub returns : goal.returns
returns c = record { none = none_left; all = all_taken }
