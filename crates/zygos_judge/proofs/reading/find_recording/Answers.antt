use Rattle.std.proofs.Common.{Bool, sym, subst}
use Rattle.zy_explain.specs.Judged.{judged_after}
use Rattle.zy_items.specs.Standing.{Standing}
use Rattle.zygos_judge.specs.Finding.{OfRequested}
use Rattle.zygos_judge.specs.Input.{IsJudged}
use Rattle.zygos_judge.specs.Words.{is_window}
use Rattle.zygos_judge.proofs.reading.find_recording.Goals as goal

pub returns-clause-ends : goal.returns-clause-ends
returns-clause-ends g c =
    let task = c.args.task in
    let read = c.in_ok-recording.ensures.recording in
    let made = read.2.recording in
    let outputs = c.in_ok-recording.recording.outputs in
    let found = c.in_ok-found.field-0 in (
      read.0,
      read.1,
      subst (λ (third : Bool). OfRequested third task.rules read.0 (IsJudged (is_window task) found)) (sym c.requires.first)
          (record {
            streams = c.in_ok-recording.recording.capture.streams;
            outputs = outputs;
            made = made;
            lawful = read.3;
            holds = subst (λ (from : Standing). IsJudged (is_window task) found (judged_after from.lasting task.rules made.of_capture.count made.of_capture.records outputs.sessions) from) c.nothing-from.ensures.nothing
                (c.in_ok-found.ensures.judged made.of_capture.count made.of_capture.records read.2.noted);
          }),
    )
