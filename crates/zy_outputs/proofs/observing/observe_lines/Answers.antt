use Rattle.std.proofs.Common.{length, refl, arith}
use Rattle.std.proofs.lemmas.Option.{slice_get_read}
use Rattle.zy_outputs.proofs.LineLemmas.{lines_next}
use Rattle.zy_outputs.proofs.observing.observe_lines.Goals as goal

pub loop-conn-preserved : goal.loop-conn-preserved
loop-conn-preserved c =
    let near = c.loop-conn-test.true in
    let lines = c.args.lines.now in
    let conn = c.loop-conn.conn in
    lines_next c.args.rules lines c.args.outputs.now c.args.calls.now c.loop-conn.calls conn c.loop-conn.found c.loop-conn.invariant c.index-lines-conn.result c.observe_line.new.calls c.in_ok-next.next
    c.first_of-found.result (slice_get_read lines (length lines) conn c.index-lines-conn.result refl (omega arith) c.index-lines-conn.is) c.in_ok-next.ensures.done c.first_of-found.ensures.value
