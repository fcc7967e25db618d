use Rattle.zygos_judge.specs.Words.{is_window}
use Rattle.zygos_judge.proofs.ordering.judge_calls.Goals as goal

pub returns-in_ok-found-in-Nothing : goal.returns-in_ok-found-in-Nothing
returns-in_ok-found-in-Nothing c = record {
  judged = λ count records hold shown. (
    c.in_ok-found-in-Nothing.ensures.plain (is_window c.args.task),
    c.in_ok-found-in-Nothing.ensures.found count records c.args.outputs.now.sessions hold shown,
  );
}
