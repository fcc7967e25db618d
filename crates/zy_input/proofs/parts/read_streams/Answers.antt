use Rattle.std.proofs.Common.{ℕ, List, [], sym, subst}
use Rattle.std.specs.Prelude.{Ok, Err}
use Rattle.zy_input.specs.Parts.{HasReadStreams}
use Rattle.zy_input.proofs.WholeLemmas.{capture_stands, no_capture, no_notes, streams_read}
use Rattle.zy_input.proofs.parts.read_streams.Goals as goal

pub read_alone-requires : goal.read_alone-requires
read_alone-requires g c = record { goes = (tt, [], capture_stands no_notes c.new.result c.new.ensures.reader c.new.ensures.none, no_capture) }

pub returns-in-Ok-clause-streams : goal.returns-in-Ok-clause-streams
returns-in-Ok-clause-streams g c =
    let alone = c.in-Ok.ensures.value tt (capture_stands no_notes c.new.result c.new.ensures.reader c.new.ensures.none) no_capture in
    subst (λ (l : List (List (List ℕ))). HasReadStreams g.S.Source.rest g.S.Source.faults c.args.source.now c.read_alone.new.source (Ok l)) (sym c.into_streams.ensures.value)
    (streams_read no_notes g.S.Source.rest g.S.Source.faults c.args.source.now c.read_alone.new.source alone.0 (Ok c.in-Ok.capture) alone.1)

pub returns-in-Err-clause-streams : goal.returns-in-Err-clause-streams
returns-in-Err-clause-streams g c =
    let alone = c.in-Err.ensures.value tt (capture_stands no_notes c.new.result c.new.ensures.reader c.new.ensures.none) no_capture in
    streams_read no_notes g.S.Source.rest g.S.Source.faults c.args.source.now c.read_alone.new.source alone.0 (Err c.in-Err.stop) alone.1
