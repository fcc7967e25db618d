use Rattle.core_laws.proofs.ControlLemmas.{bit_of_a_core}
use Rattle.core_laws.proofs.control.the_bit_of_a_core_is_set_exactly_where_it_has_announced_itself.Goals as goal

pub returns : goal.returns
returns c = record { value = bit_of_a_core }
