use Rattle.std.proofs.Common.{refl}
use Rattle.zy_read.specs.Format.{read_on, reading_of, verdict_on}
use Rattle.format_laws.proofs.packets.the_worked_faults_are_told.Goals as goal

pub returns : goal.returns
unfolding read_on reading_of verdict_on
returns c = record { empty = refl; other = refl }
