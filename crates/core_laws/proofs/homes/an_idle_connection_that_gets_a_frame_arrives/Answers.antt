use Rattle.std.proofs.Common.{Some, refl}
use Rattle.core_laws.proofs.HomeLemmas.{published_away}
use Rattle.core_laws.proofs.homes.an_idle_connection_that_gets_a_frame_arrives.Goals as goal

pub returns-clause-idle : goal.returns-clause-idle
returns-clause-idle c = λ h p b l k fine here. (k.each fine p (Some b) l here.0 here.1).1 refl

pub returns-clause-arrives : goal.returns-clause-arrives
returns-clause-arrives c = λ h h' item place block f comes there gone. published_away h h' place block (f.here place block comes there) gone
