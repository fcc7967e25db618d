use Rattle.std.proofs.Common.{sym, subst}
use Rattle.zy_park.specs.Pass.{GaveNone}
use Rattle.zy_park.proofs.SeatLemmas.{none_given}
use Rattle.zy_park.proofs.bells.Bells.new.Goals as goal

pub returns-in-Ok-clause-free : goal.returns-in-Ok-clause-free
returns-in-Ok-clause-free c = subst GaveNone (sym c.in-Ok.ensures.root) (none_given c.add_all.new.bells.items)
