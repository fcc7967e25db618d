use Rattle.std.proofs.Common.{refl, sym, ◌∙◌}
use Rattle.mc_parse.specs.Words.{words}
use Rattle.mc_parse.specs.Need.{need}
use Rattle.mc_parse.specs.Parsed.{IsParsed}
use Rattle.mc_parse.proofs.MetaLemmas.{unnamed_needs, unnamed_form}
use Rattle.mc_parse.proofs.ParsedLemmas.{unnamed_parsed}
use Rattle.mc_parse.proofs.need.read_need.Goals as goal

pub returns-in-None-clause-value : goal.returns-in-None-clause-value
unfolding need
returns-in-None-clause-value c =
    c.unnamed_need.ensures.value ∙ unnamed_needs c.args.line.now c.in-Some.first.word.now (words c.in-Some.first.rest.now) c.in-Some.ensures.found (sym c.in-None.ensures.value)

pub returns-in-None-clause-parsed : goal.returns-in-None-clause-parsed
unfolding IsParsed
returns-in-None-clause-parsed c =
    unnamed_parsed (need c.args.line.now) c.args.line.now _ refl
    (unnamed_form c.args.line.now c.in-Some.first.word.now (words c.in-Some.first.rest.now) c.in-Some.ensures.found (sym c.in-None.ensures.value))
