use Rattle.zy_input.proofs.PacketLemmas.{ends_good, ends_bad}
use Rattle.zy_input.proofs.packets_part.PacketsPartPart.end.Goals as goal

pub returns-in-Ok-clause-cut : goal.returns-in-Ok-clause-cut
returns-in-Ok-clause-cut c port bytes stands goes_on = ends_good port c.args.self bytes c.in-Ok.flows stands c.in-Ok.ensures.value

pub returns-in-Err-clause-cut : goal.returns-in-Err-clause-cut
returns-in-Err-clause-cut c port bytes stands goes_on = ends_bad port c.args.self bytes c.in-Err.fault stands c.in-Err.ensures.value
