use Rattle.zy_finish.proofs.CuttingLemmas.{cut_is_outputs, bytes_up_to, bytes_behind}
use Rattle.core_laws.proofs.served.outputs_are_cut_at_the_ends.Goals as goal

pub returns : goal.returns
returns c = record { value = cut_is_outputs; between = bytes_up_to; last = bytes_behind }
