use Rattle.run_laws.proofs.TextKindLemmas.{three_kinds}
use Rattle.run_laws.proofs.frames.frame_texts_are_of_three_kinds.Goals as goal

pub returns : goal.returns
returns c = record { law = three_kinds }
