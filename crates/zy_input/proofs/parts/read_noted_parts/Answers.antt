use Rattle.std.proofs.Common.{[], ◌++◌}
use Rattle.zy_input.specs.declared.journal_part.Until.TheVariants.{OwnEnd}
use Rattle.zy_input.specs.Kinds.{capture_kind, journal_kind, replies_kind}
use Rattle.zy_input.proofs.WholeLemmas.{capture_begun, journal_begun, replies_begun, is_capture, is_journal, capture_fault, journal_fault, replies_fault, stopped, all_parts}
use Rattle.zy_input.proofs.parts.read_noted_parts.Goals as goal

pub returns-in-Err-read_part-clause-parts : goal.returns-in-Err-read_part-clause-parts
returns-in-Err-read_part-clause-parts g c =
    let begun = capture_begun g.N.Notes.holds g.S.Source.rest g.S.Source.faults c.args.source.now c.in-Ok.pieces c.new-2.result c.in-Ok.ensures.ok c.new-2.ensures.reader c.new-2.ensures.none in
    stopped g.N.Notes.holds (capture_kind g.N.Notes.holds) g.S.Source.rest g.S.Source.faults c.args.source.now c.read_part.new.source [] c.in-Err-read_part.stop (λ text refusal. capture_fault g.N.Notes.holds text refusal) (c.in-Err-read_part.ensures.value tt c.args.source.now [] begun)

pub returns-in-Err-read_part-2-clause-parts : goal.returns-in-Err-read_part-2-clause-parts
returns-in-Err-read_part-2-clause-parts g c =
    let begun = capture_begun g.N.Notes.holds g.S.Source.rest g.S.Source.faults c.args.source.now c.in-Ok.pieces c.new-2.result c.in-Ok.ensures.ok c.new-2.ensures.reader c.new-2.ensures.none in
    let capture = c.in-Ok-read_part.ensures.value tt c.args.source.now [] begun in
    let next = journal_begun g.S.Source.rest g.S.Source.faults c.args.source.now c.read_part.new.source c.read_part.new.pieces capture.bytes c.new-3.result OwnEnd capture.given c.new-3.ensures.value c.new-3.ensures.until in
    stopped g.N.Notes.holds (journal_kind OwnEnd) g.S.Source.rest g.S.Source.faults c.args.source.now c.read_part-2.new.source capture.bytes c.in-Err-read_part-2.stop (λ text refusal. journal_fault capture.bytes text refusal (is_capture capture.bytes c.in-Ok-read_part.capture.streams capture.gives.capture))
    (c.in-Err-read_part-2.ensures.value OwnEnd c.args.source.now capture.bytes next)

pub returns-in-Err-read_part-3-clause-parts : goal.returns-in-Err-read_part-3-clause-parts
returns-in-Err-read_part-3-clause-parts g c =
    let begun = capture_begun g.N.Notes.holds g.S.Source.rest g.S.Source.faults c.args.source.now c.in-Ok.pieces c.new-2.result c.in-Ok.ensures.ok c.new-2.ensures.reader c.new-2.ensures.none in
    let capture = c.in-Ok-read_part.ensures.value tt c.args.source.now [] begun in
    let next = journal_begun g.S.Source.rest g.S.Source.faults c.args.source.now c.read_part.new.source c.read_part.new.pieces capture.bytes c.new-3.result OwnEnd capture.given c.new-3.ensures.value c.new-3.ensures.until in
    let journal = c.in-Ok-read_part-2.ensures.value OwnEnd c.args.source.now capture.bytes next in
    let last = replies_begun g.S.Source.rest g.S.Source.faults c.args.source.now c.read_part-2.new.source c.read_part-2.new.pieces (capture.bytes ++ journal.bytes) c.new-4.result journal.given c.new-4.ensures.reader c.new-4.ensures.none in
    stopped g.N.Notes.holds replies_kind g.S.Source.rest g.S.Source.faults c.args.source.now c.read_part-3.new.source (capture.bytes ++ journal.bytes) c.in-Err-read_part-3.stop
    (λ text refusal. replies_fault capture.bytes journal.bytes text refusal (is_capture capture.bytes c.in-Ok-read_part.capture.streams capture.gives.capture) (is_journal journal.bytes c.in-Ok-read_part-2.journal journal.gives))
    (c.in-Err-read_part-3.ensures.value tt c.args.source.now (capture.bytes ++ journal.bytes) last)

pub returns-clause-parts : goal.returns-clause-parts
returns-clause-parts g c =
    let begun = capture_begun g.N.Notes.holds g.S.Source.rest g.S.Source.faults c.args.source.now c.in-Ok.pieces c.new-2.result c.in-Ok.ensures.ok c.new-2.ensures.reader c.new-2.ensures.none in
    let capture = c.in-Ok-read_part.ensures.value tt c.args.source.now [] begun in
    let next = journal_begun g.S.Source.rest g.S.Source.faults c.args.source.now c.read_part.new.source c.read_part.new.pieces capture.bytes c.new-3.result OwnEnd capture.given c.new-3.ensures.value c.new-3.ensures.until in
    let journal = c.in-Ok-read_part-2.ensures.value OwnEnd c.args.source.now capture.bytes next in
    let last = replies_begun g.S.Source.rest g.S.Source.faults c.args.source.now c.read_part-2.new.source c.read_part-2.new.pieces (capture.bytes ++ journal.bytes) c.new-4.result journal.given c.new-4.ensures.reader c.new-4.ensures.none in
    all_parts g.N.Notes.holds g.S.Source.rest g.S.Source.faults c.args.source.now c.read_part-3.new.source c.read_part-3.new.pieces capture.bytes journal.bytes
    (record { capture = c.in-Ok-read_part.capture; journal = c.in-Ok-read_part-2.journal; outputs = c.in-Ok-read_part-3.outputs }) capture.gives journal.gives
    (c.in-Ok-read_part-3.ensures.value tt c.args.source.now (capture.bytes ++ journal.bytes) last)

pub read_part-requires : goal.read_part-requires
read_part-requires g c =
    let begun = capture_begun g.N.Notes.holds g.S.Source.rest g.S.Source.faults c.args.source.now c.in-Ok.pieces c.new-2.result c.in-Ok.ensures.ok c.new-2.ensures.reader c.new-2.ensures.none in
    record { goes = (tt, [], begun.stands, begun.goes_on) }

pub read_part-requires-2 : goal.read_part-requires-2
read_part-requires-2 g c =
    let begun = capture_begun g.N.Notes.holds g.S.Source.rest g.S.Source.faults c.args.source.now c.in-Ok.pieces c.new-2.result c.in-Ok.ensures.ok c.new-2.ensures.reader c.new-2.ensures.none in
    let capture = c.in-Ok-read_part.ensures.value tt c.args.source.now [] begun in
    let next = journal_begun g.S.Source.rest g.S.Source.faults c.args.source.now c.read_part.new.source c.read_part.new.pieces capture.bytes c.new-3.result OwnEnd capture.given c.new-3.ensures.value c.new-3.ensures.until in
    record { goes = (OwnEnd, [], next.stands, next.goes_on) }

pub read_part-requires-3 : goal.read_part-requires-3
read_part-requires-3 g c =
    let begun = capture_begun g.N.Notes.holds g.S.Source.rest g.S.Source.faults c.args.source.now c.in-Ok.pieces c.new-2.result c.in-Ok.ensures.ok c.new-2.ensures.reader c.new-2.ensures.none in
    let capture = c.in-Ok-read_part.ensures.value tt c.args.source.now [] begun in
    let next = journal_begun g.S.Source.rest g.S.Source.faults c.args.source.now c.read_part.new.source c.read_part.new.pieces capture.bytes c.new-3.result OwnEnd capture.given c.new-3.ensures.value c.new-3.ensures.until in
    let journal = c.in-Ok-read_part-2.ensures.value OwnEnd c.args.source.now capture.bytes next in
    let last = replies_begun g.S.Source.rest g.S.Source.faults c.args.source.now c.read_part-2.new.source c.read_part-2.new.pieces (capture.bytes ++ journal.bytes) c.new-4.result journal.given c.new-4.ensures.reader c.new-4.ensures.none in
    record { goes = (tt, [], last.stands, last.goes_on) }
