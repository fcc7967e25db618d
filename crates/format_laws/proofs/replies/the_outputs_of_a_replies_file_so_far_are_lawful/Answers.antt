use Rattle.zy_capture.proofs.RepliesSoFarLemmas.{outputs_so_far}
use Rattle.format_laws.proofs.replies.the_outputs_of_a_replies_file_so_far_are_lawful.Goals as goal

pub returns : goal.returns
returns c = record { lawful = outputs_so_far }
