use Rattle.std.proofs.Common.{◌++◌}
use Rattle.zy_input.proofs.PartLemmas.{took}
use Rattle.zy_input.proofs.part.advance.Goals as goal

pub returns-clause-value : goal.returns-clause-value
returns-clause-value g c setting first before bytes reading =
    let kind = g.P.Part.kind setting in
    let given = rw c.if-not-branch.false at c.in_ok-refill.ensures.value first (before ++ bytes) reading.given in
    let takes = c.take-count.ensures.value setting bytes reading.stands reading.goes_on in
    rw (c.pass.ensures.value, c.take-count.ensures.kept)
    (took kind g.S.Source.rest g.S.Source.faults first c.refill.new.source c.refill.new.self before bytes c.take-count.result.count c.take-count.new.self c.take-count.result.answer given c.take-count.ensures.within c.take-count.ensures.taken takes)
