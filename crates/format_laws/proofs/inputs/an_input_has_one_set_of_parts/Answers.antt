use Rattle.format_laws.proofs.InputDivisionLemmas.{one_streams, one_journal, one_outputs}
use Rattle.format_laws.proofs.inputs.an_input_has_one_set_of_parts.Goals as goal

pub returns : goal.returns
returns c = record { streams = one_streams; journal = one_journal; outputs = one_outputs }
