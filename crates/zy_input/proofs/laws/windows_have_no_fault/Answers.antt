use Rattle.zy_input.proofs.WindowLemmas.{no_fault}
use Rattle.zy_input.proofs.laws.windows_have_no_fault.Goals as goal

pub returns : goal.returns
returns c = record { none = no_fault }
