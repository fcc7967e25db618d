use Rattle.std.proofs.Common.{sym, subst}
use Rattle.std.specs.Prelude.{Some}
use Rattle.zy_read.specs.Seen.{Side, side, OfGiven, WasWritten, TakesPart}
use Rattle.zygos_judge.specs.declared.finding.Finding.{Finding}
use Rattle.zygos_judge.specs.Ends.{JudgesAs}
use Rattle.zygos_judge.specs.Input.{finding_in}
use Rattle.zygos_judge.proofs.EndLemmas.{found_so}
use Rattle.zygos_judge.proofs.input.judge_input.Goals as goal

pub returns-in-Ok-written-clause-ends : goal.returns-in-Ok-written-clause-ends
returns-in-Ok-written-clause-ends g c =
    let source : Side = side g.S.Source.rest g.S.Source.faults c.args.source.now c.find.new.source in
    let sink : Side = side g.K.Sink.holds g.K.Sink.faults c.args.sink.now c.write_judged-written.new.sink in
    subst (λ (finding : Finding). JudgesAs (Some c.args.task) (OfGiven source) (WasWritten sink) finding) (sym c.finding-finding.ensures.value)
    (found_so c.args.task source (WasWritten sink) c.in-Ok.judged c.in-Ok-written.ensures.writes.whole c.in-Ok.ensures.ends)

pub returns-in-Err-clause-ends : goal.returns-in-Err-clause-ends
returns-in-Err-clause-ends g c =
    let source : Side = side g.S.Source.rest g.S.Source.faults c.args.source.now c.find.new.source in
    let sink : Side = side g.K.Sink.holds g.K.Sink.faults c.args.sink.now c.write_judged-written.new.sink in (
      (finding_in c.in-Ok.judged, found_so c.args.task source (TakesPart sink) c.in-Ok.judged c.in-Err.ensures.writes.part c.in-Ok.ensures.ends),
      c.in-Err.ensures.writes.cause,
    )
