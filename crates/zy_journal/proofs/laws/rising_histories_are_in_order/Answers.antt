use Rattle.zy_journal.proofs.OrderLemmas.{rising_ordered}
use Rattle.zy_journal.proofs.laws.rising_histories_are_in_order.Goals as goal

pub returns : goal.returns
returns c = record { ordered = rising_ordered }
