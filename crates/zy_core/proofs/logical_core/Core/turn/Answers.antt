use Rattle.zy_core.proofs.TurnLemmas.{came_alone}
use Rattle.zy_core.proofs.logical_core.Core.turn.Goals as goal

pub returns-clause-turn : goal.returns-clause-turn
returns-clause-turn g c =
    rw c.with.ensures.value (came_alone c.args.self.now c.turn_over.new.self c.new-looks.result c.turn_over.new.looks c.in_ok-came.came c.new-looks.ensures.value c.in_ok-came.ensures.turn)
