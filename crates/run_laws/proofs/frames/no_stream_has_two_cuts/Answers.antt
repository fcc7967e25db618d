use Rattle.run_laws.proofs.CutLemmas.{one_cut}
use Rattle.run_laws.proofs.frames.no_stream_has_two_cuts.Goals as goal

pub returns : goal.returns
returns c = record { law = one_cut }
