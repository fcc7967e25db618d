use Rattle.zy_read.proofs.Feeding.{fault_stays, fault_lasts}
use Rattle.zy_read.specs.FieldsLasting.{lasting}
use Rattle.zy_capture.specs.Steps.{fields}
use Rattle.zy_capture.specs.Verdict.{captures, good}
use Rattle.zy_capture.specs.Verdict.Verdict.{Bad}
use Rattle.format_laws.proofs.captures.the_first_fault_of_a_capture_counts.Goals as goal

pub returns : goal.returns
returns c = record { stays = fault_stays captures (lasting fields good Bad); lasts = fault_lasts captures (lasting fields good Bad) }
