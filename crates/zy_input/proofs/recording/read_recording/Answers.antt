use Rattle.std.proofs.Common.{[]}
use Rattle.zy_input.specs.Kinds.{capture_kind, replies_kind}
use Rattle.zy_input.proofs.WholeLemmas.{capture_begun, replies_begun, is_capture}
use Rattle.zy_input.proofs.RecordingLemmas.{first_fault, last_fault, recording_stopped, both_parts}
use Rattle.zy_input.proofs.recording.read_recording.Goals as goal

pub returns-in-Err-read_part-clause-recording : goal.returns-in-Err-read_part-clause-recording
returns-in-Err-read_part-clause-recording g c =
    let begun = capture_begun g.N.Notes.holds g.S.Source.rest g.S.Source.faults c.args.source.now c.in-Ok.pieces c.new-2.result c.in-Ok.ensures.ok c.new-2.ensures.reader c.new-2.ensures.none in
    recording_stopped g.N.Notes.holds (capture_kind g.N.Notes.holds) g.S.Source.rest g.S.Source.faults c.args.source.now c.read_part.new.source [] c.in-Err-read_part.stop (λ text refusal. first_fault g.N.Notes.holds text refusal) (c.in-Err-read_part.ensures.value tt c.args.source.now [] begun)

pub returns-in-Err-read_part-2-clause-recording : goal.returns-in-Err-read_part-2-clause-recording
returns-in-Err-read_part-2-clause-recording g c =
    let begun = capture_begun g.N.Notes.holds g.S.Source.rest g.S.Source.faults c.args.source.now c.in-Ok.pieces c.new-2.result c.in-Ok.ensures.ok c.new-2.ensures.reader c.new-2.ensures.none in
    let capture = c.in-Ok-read_part.ensures.value tt c.args.source.now [] begun in
    let last = replies_begun g.S.Source.rest g.S.Source.faults c.args.source.now c.read_part.new.source c.read_part.new.pieces capture.bytes c.new-3.result capture.given c.new-3.ensures.reader c.new-3.ensures.none in
    recording_stopped g.N.Notes.holds replies_kind g.S.Source.rest g.S.Source.faults c.args.source.now c.read_part-2.new.source capture.bytes c.in-Err-read_part-2.stop
    (λ text refusal. last_fault capture.bytes text refusal (is_capture capture.bytes c.in-Ok-read_part.capture.streams capture.gives.capture)) (c.in-Err-read_part-2.ensures.value tt c.args.source.now capture.bytes last)

pub returns-clause-recording : goal.returns-clause-recording
returns-clause-recording g c =
    let begun = capture_begun g.N.Notes.holds g.S.Source.rest g.S.Source.faults c.args.source.now c.in-Ok.pieces c.new-2.result c.in-Ok.ensures.ok c.new-2.ensures.reader c.new-2.ensures.none in
    let capture = c.in-Ok-read_part.ensures.value tt c.args.source.now [] begun in
    let last = replies_begun g.S.Source.rest g.S.Source.faults c.args.source.now c.read_part.new.source c.read_part.new.pieces capture.bytes c.new-3.result capture.given c.new-3.ensures.reader c.new-3.ensures.none in
    both_parts g.N.Notes.holds g.S.Source.rest g.S.Source.faults c.args.source.now c.read_part-2.new.source c.read_part-2.new.pieces capture.bytes (record { capture = c.in-Ok-read_part.capture; outputs = c.in-Ok-read_part-2.outputs }) capture.gives
    (c.in-Ok-read_part-2.ensures.value tt c.args.source.now capture.bytes last)

pub read_part-requires : goal.read_part-requires
read_part-requires g c =
    let begun = capture_begun g.N.Notes.holds g.S.Source.rest g.S.Source.faults c.args.source.now c.in-Ok.pieces c.new-2.result c.in-Ok.ensures.ok c.new-2.ensures.reader c.new-2.ensures.none in
    record { goes = (tt, [], begun.stands, begun.goes_on) }

pub read_part-requires-2 : goal.read_part-requires-2
read_part-requires-2 g c =
    let begun = capture_begun g.N.Notes.holds g.S.Source.rest g.S.Source.faults c.args.source.now c.in-Ok.pieces c.new-2.result c.in-Ok.ensures.ok c.new-2.ensures.reader c.new-2.ensures.none in
    let capture = c.in-Ok-read_part.ensures.value tt c.args.source.now [] begun in
    let last = replies_begun g.S.Source.rest g.S.Source.faults c.args.source.now c.read_part.new.source c.read_part.new.pieces capture.bytes c.new-3.result capture.given c.new-3.ensures.reader c.new-3.ensures.none in
    record { goes = (tt, [], last.stands, last.goes_on) }
