use Rattle.zy_frame.proofs.CutLaws.{frames_of_nil}
use Rattle.run_laws.proofs.CutLemmas.{meets_quit_nil}
use Rattle.run_laws.proofs.frames.the_empty_stream_has_no_frame.Goals as goal

pub returns : goal.returns
returns c = record { frames = frames_of_nil; quit = meets_quit_nil }
