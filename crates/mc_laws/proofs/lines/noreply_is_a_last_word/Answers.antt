use Rattle.mc_laws.proofs.NoreplyLemmas.{quiet_line}
use Rattle.mc_laws.proofs.lines.noreply_is_a_last_word.Goals as goal

pub returns : goal.returns
returns c = record { value = quiet_line }
