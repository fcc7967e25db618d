use Rattle.run_laws.proofs.CutLemmas.{after_quit}
use Rattle.run_laws.proofs.frames.no_frame_comes_after_quit.Goals as goal

pub returns : goal.returns
returns c = record { frames = λ stream more is. (after_quit stream more is).0; quit = λ stream more is. (after_quit stream more is).1 }
