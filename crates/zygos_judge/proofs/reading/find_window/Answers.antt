use Rattle.std.proofs.Common.{Bool, sym, subst}
use Rattle.zy_items.specs.Standing.{standing_of}
use Rattle.zy_items.proofs.StandingLemmas.{good_stands}
use Rattle.zygos_judge.specs.Finding.{OfRequested}
use Rattle.zygos_judge.specs.Input.{IsJudged}
use Rattle.zygos_judge.specs.Words.{is_window}
use Rattle.zygos_judge.proofs.reading.find_window.Goals as goal

pub returns-clause-ends : goal.returns-clause-ends
returns-clause-ends g c =
    let task = c.args.task in
    let read = c.in_ok-window.ensures.window in
    let made = read.2.window in
    let found = c.in_ok-found.field-0 in (
      read.0,
      read.1,
      subst (λ (third : Bool). OfRequested third task.rules read.0 (IsJudged (is_window task) found)) (sym c.requires.first)
          (record {
            streams = c.in_ok-window.window.capture.streams;
            outputs = c.in_ok-window.window.outputs;
            from = standing_of c.in_ok-window.window.standing;
            made = made;
            lawful = read.3;
            valid = good_stands made.items_text (standing_of c.in_ok-window.window.standing) made.of_items;
            holds = c.in_ok-found.ensures.judged made.of_capture.count made.of_capture.records read.2.noted;
          }),
    )
