use Rattle.run_laws.proofs.TextKindLemmas.{frame_of_long, frame_of_line, frame_of_block, frame_of_large}
use Rattle.run_laws.proofs.frames.each_kind_of_frame_text_has_its_frame.Goals as goal

pub returns : goal.returns
returns c = record { long = frame_of_long; line = frame_of_line; block = frame_of_block; large = frame_of_large }
