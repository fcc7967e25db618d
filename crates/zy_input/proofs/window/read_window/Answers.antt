use Rattle.std.proofs.Common.{[], ◌++◌}
use Rattle.zy_items.specs.Standing.{standing_of}
use Rattle.zy_input.specs.Kinds.{capture_kind, items_kind, replies_kind}
use Rattle.zy_input.proofs.WholeLemmas.{capture_begun, replies_begun, is_capture}
use Rattle.zy_input.proofs.WindowLemmas.{items_begun, is_items, first_fault, items_fault, last_fault, window_stopped, all_parts}
use Rattle.zy_input.proofs.window.read_window.Goals as goal

pub returns-in-Err-read_part-clause-window : goal.returns-in-Err-read_part-clause-window
returns-in-Err-read_part-clause-window g c =
    let begun = capture_begun g.N.Notes.holds g.S.Source.rest g.S.Source.faults c.args.source.now c.in-Ok.pieces c.new-2.result c.in-Ok.ensures.ok c.new-2.ensures.reader c.new-2.ensures.none in
    window_stopped g.N.Notes.holds (capture_kind g.N.Notes.holds) g.S.Source.rest g.S.Source.faults c.args.source.now c.read_part.new.source [] c.in-Err-read_part.stop (λ text refusal. first_fault g.N.Notes.holds text refusal) (c.in-Err-read_part.ensures.value tt c.args.source.now [] begun)

pub returns-in-Err-read_part-2-clause-window : goal.returns-in-Err-read_part-2-clause-window
returns-in-Err-read_part-2-clause-window g c =
    let begun = capture_begun g.N.Notes.holds g.S.Source.rest g.S.Source.faults c.args.source.now c.in-Ok.pieces c.new-2.result c.in-Ok.ensures.ok c.new-2.ensures.reader c.new-2.ensures.none in
    let capture = c.in-Ok-read_part.ensures.value tt c.args.source.now [] begun in
    let next = items_begun g.S.Source.rest g.S.Source.faults c.args.source.now c.read_part.new.source c.read_part.new.pieces capture.bytes c.new-3.result capture.given c.new-3.ensures.value in
    window_stopped g.N.Notes.holds items_kind g.S.Source.rest g.S.Source.faults c.args.source.now c.read_part-2.new.source capture.bytes c.in-Err-read_part-2.stop
    (λ text refusal. items_fault capture.bytes text refusal (is_capture capture.bytes c.in-Ok-read_part.capture.streams capture.gives.capture)) (c.in-Err-read_part-2.ensures.value tt c.args.source.now capture.bytes next)

pub returns-in-Err-read_part-3-clause-window : goal.returns-in-Err-read_part-3-clause-window
returns-in-Err-read_part-3-clause-window g c =
    let begun = capture_begun g.N.Notes.holds g.S.Source.rest g.S.Source.faults c.args.source.now c.in-Ok.pieces c.new-2.result c.in-Ok.ensures.ok c.new-2.ensures.reader c.new-2.ensures.none in
    let capture = c.in-Ok-read_part.ensures.value tt c.args.source.now [] begun in
    let next = items_begun g.S.Source.rest g.S.Source.faults c.args.source.now c.read_part.new.source c.read_part.new.pieces capture.bytes c.new-3.result capture.given c.new-3.ensures.value in
    let items = c.in-Ok-read_part-2.ensures.value tt c.args.source.now capture.bytes next in
    let last = replies_begun g.S.Source.rest g.S.Source.faults c.args.source.now c.read_part-2.new.source c.read_part-2.new.pieces (capture.bytes ++ items.bytes) c.new-4.result items.given c.new-4.ensures.reader c.new-4.ensures.none in
    window_stopped g.N.Notes.holds replies_kind g.S.Source.rest g.S.Source.faults c.args.source.now c.read_part-3.new.source (capture.bytes ++ items.bytes) c.in-Err-read_part-3.stop
    (λ text refusal. last_fault capture.bytes items.bytes text refusal (is_capture capture.bytes c.in-Ok-read_part.capture.streams capture.gives.capture) (is_items items.bytes (standing_of c.in-Ok-read_part-2.standing) items.gives))
    (c.in-Err-read_part-3.ensures.value tt c.args.source.now (capture.bytes ++ items.bytes) last)

pub returns-clause-window : goal.returns-clause-window
returns-clause-window g c =
    let begun = capture_begun g.N.Notes.holds g.S.Source.rest g.S.Source.faults c.args.source.now c.in-Ok.pieces c.new-2.result c.in-Ok.ensures.ok c.new-2.ensures.reader c.new-2.ensures.none in
    let capture = c.in-Ok-read_part.ensures.value tt c.args.source.now [] begun in
    let next = items_begun g.S.Source.rest g.S.Source.faults c.args.source.now c.read_part.new.source c.read_part.new.pieces capture.bytes c.new-3.result capture.given c.new-3.ensures.value in
    let items = c.in-Ok-read_part-2.ensures.value tt c.args.source.now capture.bytes next in
    let last = replies_begun g.S.Source.rest g.S.Source.faults c.args.source.now c.read_part-2.new.source c.read_part-2.new.pieces (capture.bytes ++ items.bytes) c.new-4.result items.given c.new-4.ensures.reader c.new-4.ensures.none in
    all_parts g.N.Notes.holds g.S.Source.rest g.S.Source.faults c.args.source.now c.read_part-3.new.source c.read_part-3.new.pieces capture.bytes items.bytes
    (record { capture = c.in-Ok-read_part.capture; standing = c.in-Ok-read_part-2.standing; outputs = c.in-Ok-read_part-3.outputs }) capture.gives items.gives
    (c.in-Ok-read_part-3.ensures.value tt c.args.source.now (capture.bytes ++ items.bytes) last)

pub read_part-requires : goal.read_part-requires
read_part-requires g c =
    let begun = capture_begun g.N.Notes.holds g.S.Source.rest g.S.Source.faults c.args.source.now c.in-Ok.pieces c.new-2.result c.in-Ok.ensures.ok c.new-2.ensures.reader c.new-2.ensures.none in
    record { goes = (tt, [], begun.stands, begun.goes_on) }

pub read_part-requires-2 : goal.read_part-requires-2
read_part-requires-2 g c =
    let begun = capture_begun g.N.Notes.holds g.S.Source.rest g.S.Source.faults c.args.source.now c.in-Ok.pieces c.new-2.result c.in-Ok.ensures.ok c.new-2.ensures.reader c.new-2.ensures.none in
    let capture = c.in-Ok-read_part.ensures.value tt c.args.source.now [] begun in
    let next = items_begun g.S.Source.rest g.S.Source.faults c.args.source.now c.read_part.new.source c.read_part.new.pieces capture.bytes c.new-3.result capture.given c.new-3.ensures.value in
    record { goes = (tt, [], next.stands, next.goes_on) }

pub read_part-requires-3 : goal.read_part-requires-3
read_part-requires-3 g c =
    let begun = capture_begun g.N.Notes.holds g.S.Source.rest g.S.Source.faults c.args.source.now c.in-Ok.pieces c.new-2.result c.in-Ok.ensures.ok c.new-2.ensures.reader c.new-2.ensures.none in
    let capture = c.in-Ok-read_part.ensures.value tt c.args.source.now [] begun in
    let next = items_begun g.S.Source.rest g.S.Source.faults c.args.source.now c.read_part.new.source c.read_part.new.pieces capture.bytes c.new-3.result capture.given c.new-3.ensures.value in
    let items = c.in-Ok-read_part-2.ensures.value tt c.args.source.now capture.bytes next in
    let last = replies_begun g.S.Source.rest g.S.Source.faults c.args.source.now c.read_part-2.new.source c.read_part-2.new.pieces (capture.bytes ++ items.bytes) c.new-4.result items.given c.new-4.ensures.reader c.new-4.ensures.none in
    record { goes = (tt, [], last.stands, last.goes_on) }
