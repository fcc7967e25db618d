use Rattle.zy_capture.proofs.SoFarLemmas.{records_so_far}
use Rattle.format_laws.proofs.captures.the_records_of_a_capture_so_far_are_lawful.Goals as goal

pub returns : goal.returns
returns c = record { lawful = records_so_far }
