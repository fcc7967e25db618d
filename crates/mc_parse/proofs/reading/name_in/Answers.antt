use Rattle.std.proofs.Common.{sym}
use Rattle.mc_parse.specs.Words.{words}
use Rattle.mc_parse.proofs.MetaLemmas.{unnamed_form}
use Rattle.mc_parse.proofs.reading.name_in.Goals as goal

pub returns-in-None-clause-none : goal.returns-in-None-clause-none
returns-in-None-clause-none c =
    unnamed_form c.args.line.now c.in-Some.first.word.now (words c.in-Some.first.rest.now) c.in-Some.ensures.found (sym c.in-None.ensures.value)
