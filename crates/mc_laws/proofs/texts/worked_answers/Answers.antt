use Rattle.std.proofs.Common.{refl}
use Rattle.std.specs.Fmt.{digits}
use Rattle.mc_reply.specs.Text.{text}
use Rattle.mc_laws.proofs.texts.worked_answers.Goals as goal

pub returns : goal.returns
unfolding text digits
returns c = record { stored = refl; silent = refl; hit = refl; unique = refl; miss = refl; number = refl; version = refl; stats = refl; fault = refl }
