use Rattle.zy_frame.proofs.CutLemmas.{splits_cut}
use Rattle.run_laws.proofs.frames.each_stream_has_a_cut.Goals as goal

pub returns : goal.returns
returns c = record { law = splits_cut }
