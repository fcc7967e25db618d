use Rattle.std.proofs.Common.{List, refl, subst}
use Rattle.zy_refute.specs.declared.observed.Observed.{Observed}
use Rattle.zy_sessions.specs.declared.line.Line.{Line}
use Rattle.zy_outputs.specs.declared.rules.Rules.{Rules}
use Rattle.zy_outputs.specs.Sessions.{LinesAreDone}
use Rattle.zy_outputs.proofs.LineLemmas.{told_found}
use Rattle.zy_outputs.proofs.observing.observe.Goals as goal

pub returns-in-Ok : goal.returns-in-Ok
returns-in-Ok c =
    let rules : Rules = record { shards = c.args.shards; forget = c.args.forget } in
    let outputs = c.args.outputs.now in
    let calls = c.observe_lines.new.calls in
    let found = c.in-Ok.found in
    let here = subst (λ (own : List Line). LinesAreDone rules own outputs c.new-calls.result calls found) c.deref.ensures.value c.in-Ok.ensures.done in
    let done = subst (λ (old : List Observed). LinesAreDone rules c.args.sessions.now.lines.items outputs old calls found) c.new-calls.ensures.value here in
    record { value = λ count records warm lasting h. told_found c.args.sessions.now count records outputs c.args.shards warm c.args.forget lasting h rules refl calls found c.told_by.result done c.told_by.ensures.value }
