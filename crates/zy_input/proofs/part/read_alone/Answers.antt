use Rattle.std.proofs.Common.{[]}
use Rattle.zy_input.proofs.PartLemmas.{given_none, begun}
use Rattle.zy_input.proofs.part.read_alone.Goals as goal

pub returns-in-Ok-clause-value : goal.returns-in-Ok-clause-value
returns-in-Ok-clause-value g c setting stands goes_on =
    let given = given_none g.S.Source.rest g.S.Source.faults c.args.source.now c.in-Ok.pieces c.in-Ok.ensures.ok in
    let reading = begun (g.P.Part.kind setting) g.S.Source.rest g.S.Source.faults c.args.source.now c.args.source.now c.in-Ok.pieces [] c.args.part given stands goes_on in
    (c.read_part.new.pieces, c.read_part.ensures.value setting c.args.source.now [] reading)

pub returns-in-Err-clause-value : goal.returns-in-Err-clause-value
returns-in-Err-clause-value g c setting stands goes_on = ([], tt)
