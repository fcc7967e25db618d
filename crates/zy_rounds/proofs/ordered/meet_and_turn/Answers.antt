use Rattle.std.proofs.Common.{ap, ◌∙◌}
use Rattle.zy_core.specs.Core.{Cored}
use Rattle.zy_rounds.specs.Turns.{next_turn}
use Rattle.zy_rounds.proofs.TurnLemmas.{turn_next}
use Rattle.zy_rounds.proofs.ordered.meet_and_turn.Goals as goal

pub returns-clause-turns : goal.returns-clause-turns
returns-clause-turns g c =
    turn_next c.meet.new.self c.turn_one.new.core c.args.looks.now c.turn_one.new.looks c.in_ok-turn_one.field-0 c.in_ok-turn_one.ensures.turned ∙ ap (λ (d : Cored). next_turn d.turns) c.meet.ensures.core
