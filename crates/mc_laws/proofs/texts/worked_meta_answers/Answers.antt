use Rattle.std.proofs.Common.{refl}
use Rattle.std.specs.Fmt.{digits}
use Rattle.mc_reply.specs.Text.{text}
use Rattle.mc_laws.proofs.texts.worked_meta_answers.Goals as goal

pub returns-clause-marks : goal.returns-clause-marks
unfolding text digits
returns-clause-marks c = refl
