use Rattle.std.proofs.Common.{length, refl, arith}
use Rattle.std.proofs.lemmas.Option.{slice_get_read}
use Rattle.zy_outputs.proofs.LineLemmas.{line_next}
use Rattle.zy_outputs.proofs.observing.observe_line.Goals as goal

pub loop-session-preserved : goal.loop-session-preserved
loop-session-preserved c =
    let near = c.loop-session-test.true in
    let sessions = c.args.line.now.sessions.items in
    let session = c.loop-session.session in
    line_next c.args.rules c.args.conn c.args.line.now c.args.outputs.now c.args.calls.now c.loop-session.calls session c.loop-session.found c.loop-session.invariant c.index.result.now c.output_in.result.now 0 0
    c.observe_session.new.calls c.in_ok-next.next c.first_of-found.result (slice_get_read sessions (length sessions) session c.index.result.now refl (omega arith) c.index.ensures) c.output_in.ensures.value
    c.in_ok-next.ensures.done c.first_of-found.ensures.value
