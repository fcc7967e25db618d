use Rattle.core_laws.proofs.ControlLemmas.{only_bits_of_cores}
use Rattle.core_laws.proofs.control.each_bit_that_is_set_is_of_a_core_that_has_announced_itself.Goals as goal

pub returns : goal.returns
returns c = record { value = only_bits_of_cores }
