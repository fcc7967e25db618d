use Rattle.zy_input.proofs.RecordingLemmas.{one_fault}
use Rattle.zy_input.proofs.laws.there_is_one_recording_fault.Goals as goal

pub returns : goal.returns
returns c = record { same = one_fault }
