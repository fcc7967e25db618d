use Rattle.zy_input.proofs.FaultLemmas.{one_fault}
use Rattle.zy_input.proofs.laws.there_is_one_part_fault.Goals as goal

pub returns : goal.returns
returns c = record { same = one_fault }
