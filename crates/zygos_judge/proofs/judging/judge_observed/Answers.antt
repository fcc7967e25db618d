use Rattle.std.proofs.Common.{subst}
use Rattle.zy_explain.specs.Judged.{judged_after}
use Rattle.zy_outputs.specs.Observing.{IsObserving}
use Rattle.zygos_judge.specs.Words.{is_window}
use Rattle.zygos_judge.proofs.judging.judge_observed.Goals as goal

pub returns-in-Kind : goal.returns-in-Kind
returns-in-Kind c = record {
  judged = λ count records hold observing.
      let r = judged_after c.args.from.now.lasting.keys c.args.task.rules count records c.args.outputs.now.sessions in
      c.kind_found.ensures.found (is_window c.args.task) count r hold (subst (IsObserving r) c.in-Kind.is observing);
}
