use Rattle.zy_capture.proofs.AddLemmas.{records_on}
use Rattle.format_laws.proofs.captures.a_further_record_is_added_last.Goals as goal

pub returns : goal.returns
returns c = record { value = records_on }
