use Rattle.std.proofs.Common.{refl, arith}
use Rattle.std.proofs.lemmas.Option.{slice_get_read}
use Rattle.zy_check.proofs.OutputLemmas.{connection_more}
use Rattle.zy_check.proofs.outputs.first_output.Goals as goal

pub first_differing-differing-requires-clause-end : goal.first_differing-differing-requires-clause-end
first_differing-differing-requires-clause-end c =
    let t = c.index-tracks-conn.result in
    let size = c.requires.ended.count in
    let count = c.count-conn-end.ensures.value in
    let near = c.loop-conn-test.true in
    (c.requires.ended.each c.loop-conn.conn t (slice_get_read c.args.tracks.now _ c.loop-conn.conn t refl (omega arith) c.index-tracks-conn.is)).1

pub returns-then-output_count-gt0 : goal.returns-then-output_count-gt0
returns-then-output_count-gt0 c =
    let size = c.count-conn-end.ensures.value in
    let same = c.count-conn.ensures.value in
    let end = c.loop-conn-test.false in
    let count = c.output_count.ensures.value in
    let more = c.if-output_count-gt0.true in
    record { found = connection_more c.args.files.now c.count-conn.result c.requires.complete (λ d s below. c.loop-conn.invariant d s (omega arith)) (omega arith) (omega arith) }
