use Rattle.std.proofs.Common.{refl}
use Rattle.zy_input.proofs.WholeLemmas.{no_notes, plain_parts, plain_stop}
use Rattle.zy_input.proofs.parts.read_parts.Goals as goal

pub returns-in-Ok-clause-parts : goal.returns-in-Ok-clause-parts
returns-in-Ok-clause-parts g c =
    plain_parts no_notes g.S.Source.rest g.S.Source.faults c.args.source.now c.read_noted_parts.new.source c.in-Ok.parts
    (record { streams = c.into_streams.result; journal = c.in-Ok.parts.journal; outputs = c.in-Ok.parts.outputs })
    c.into_streams.ensures.value refl refl c.in-Ok.ensures.parts

pub returns-in-Err-clause-parts : goal.returns-in-Err-clause-parts
returns-in-Err-clause-parts g c =
    plain_stop no_notes g.S.Source.rest g.S.Source.faults c.args.source.now c.read_noted_parts.new.source c.in-Err.stop c.in-Err.ensures.parts
