use Rattle.zy_input.proofs.WindowLemmas.{one_fault}
use Rattle.zy_input.proofs.laws.there_is_one_window_fault.Goals as goal

pub returns : goal.returns
returns c = record { same = one_fault }
