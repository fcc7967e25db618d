use Rattle.std.proofs.Common.{refl}
use Rattle.std.specs.Fmt.{digits}
use Rattle.mc_reply.specs.Text.{text}
use Rattle.mc_laws.proofs.texts.worked_limits.Goals as goal

pub returns : goal.returns
unfolding text digits
returns c = record { item = refl; number = refl; zero = refl; sum = refl }
