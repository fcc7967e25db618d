use Rattle.std.proofs.Common.{sym, ◌∙◌, subst}
use Rattle.zy_core.specs.Cores.{EachFits}
use Rattle.zygos_tail.proofs.virtual_time.turns.take_turns.Goals as goal

pub take_turn-requires-clause-fits : goal.take_turn-requires-clause-fits
take_turn-requires-clause-fits g c = subst (EachFits c.args.shared.now) (sym c.loop.invariant) c.requires.fits
