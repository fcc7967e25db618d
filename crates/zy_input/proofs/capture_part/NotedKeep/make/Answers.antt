use Rattle.zy_input.proofs.LawfulLemmas.{count_few}
use Rattle.zy_input.proofs.capture_part.NotedKeep.make.Goals as goal

pub new-requires : goal.new-requires
new-requires g c = record { limit = count_few c.requires.known.0 c.args.number c.requires.known.1 c.requires.known.2 }

pub begin-requires : goal.begin-requires
begin-requires g c = record { few = count_few c.requires.known.0 c.args.number c.requires.known.1 c.requires.known.2 }
