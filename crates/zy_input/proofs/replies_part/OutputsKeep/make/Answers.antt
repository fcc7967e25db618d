use Rattle.zy_input.proofs.OrderLemmas.{version_is_known}
use Rattle.zy_input.proofs.replies_part.OutputsKeep.make.Goals as goal

pub new-requires : goal.new-requires
new-requires c = record { version = version_is_known c.requires.known.0 c.args.number c.requires.known.2 }
