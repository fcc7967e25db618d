use Rattle.format_laws.proofs.RepliesAgainLemmas.{no_outputs_are}
use Rattle.zy_capture.proofs.AgainLemmas.{with_output_are}
use Rattle.format_laws.proofs.replies.outputs_stay_outputs.Goals as goal

pub returns : goal.returns
returns c = record { none = no_outputs_are; added = with_output_are }
