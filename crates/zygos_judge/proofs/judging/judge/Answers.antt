use Rattle.std.proofs.Common.{ℕ, List}
use Rattle.zy_capture.specs.declared.record.Record.{Record}
use Rattle.zy_explain.specs.Judged.{judged_after}
use Rattle.zy_items.specs.Standing.{standing_of}
use Rattle.zy_outputs.specs.Observing.{IsObserving}
use Rattle.zy_sessions.specs.Sessions.{SessionsHold}
use Rattle.zygos_judge.specs.declared.judged.Judged.{Judged}
use Rattle.zygos_judge.specs.Input.{IsJudged}
use Rattle.zygos_judge.specs.Words.{is_window}
use Rattle.zygos_judge.proofs.CallLemmas.{answer_so}
use Rattle.zygos_judge.proofs.judging.judge.Goals as goal

pub returns : goal.returns
returns c =
    let task = c.args.task in
    let from = c.args.from.now in
    let sessions = c.args.sessions.now in
    let outputs = c.args.outputs.now.sessions in
    record {
      judged = answer_so c.judge_observed.result
          (λ (judged : Judged). (count : ℕ) (records : List Record) → SessionsHold sessions count records → IsObserving (judged_after from.lasting.keys task.rules count records outputs) c.in_ok-observing.observing
          → IsJudged (is_window task) judged (judged_after from.lasting.keys task.rules count records outputs) (standing_of from))
          (λ (judged : Judged). (count : ℕ) (records : List Record) → SessionsHold sessions count records → IsJudged (is_window task) judged (judged_after from.lasting.keys task.rules count records outputs) (standing_of from))
          (λ judged has count records hold. has count records hold (c.in_ok-observing.ensures.value count records task.rules.warm from.lasting.keys hold)) c.judge_observed.ensures.judged;
    }
