use Rattle.std.proofs.Common.{◌∙◌, length, ap}
use Rattle.zy_core.specs.Nap.{nap_of}
use Rattle.zy_core.proofs.NapLemmas.{rests}
use Rattle.zy_core.proofs.logical_core.Core.rest_if_idle.Goals as goal

pub returns-clause-nap : goal.returns-clause-nap
returns-clause-nap g c =
    rests (length c.args.shared.now.rings) c.args.self.now c.turn.new.self c.load_done-done.new.self c.load_stop-stop.new.self c.in_ok-turn.turn c.is_counted-is_counted.result
    c.load_done-done.result c.load_stop-stop.result c.of-nap.result c.in_ok-turn.ensures.turn c.in_ok-turn.ensures.steps c.turn.ensures.control c.load_done-done.ensures.value c.load_stop-stop.ensures.value
    c.is_counted-is_counted.ensures.value
    (c.of-nap.ensures.value ∙ ap (λ n. nap_of n c.is_counted-is_counted.result c.in_ok-turn.turn c.load_done-done.result c.load_stop-stop.result) c.count.ensures.value)
