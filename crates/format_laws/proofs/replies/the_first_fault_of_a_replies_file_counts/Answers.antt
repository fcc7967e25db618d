use Rattle.zy_read.specs.FieldsLasting.{lasting}
use Rattle.zy_read.proofs.Feeding.{fault_stays, fault_lasts}
use Rattle.zy_capture.specs.RepliesSteps.{replies_fields}
use Rattle.zy_capture.specs.RepliesVerdict.{replies, good}
use Rattle.zy_capture.specs.RepliesVerdict.Verdict.{Bad}
use Rattle.format_laws.proofs.replies.the_first_fault_of_a_replies_file_counts.Goals as goal

pub returns : goal.returns
returns c = record { stays = fault_stays replies (lasting replies_fields good Bad); lasts = fault_lasts replies (lasting replies_fields good Bad) }
