use Rattle.std.proofs.Common.{ap, sym, ◌∙◌, arith}
use Rattle.std.specs.Prelude.{option_map}
use Rattle.mc_answered.specs.Halved.{halves_seen}
use Rattle.mc_answered.proofs.TextLemmas.{first_line, no_line}
use Rattle.mc_answered.proofs.line.line_length.Goals as goal

pub returns-in-Some-clause-within : goal.returns-in-Some-clause-within
returns-in-Some-clause-within c =
    let found = first_line c.args.bytes.now (halves_seen c.in-Some.halved) (sym c.halve_at.ensures.value ∙ ap (option_map halves_seen) c.in-Some.is) in
    (omega arith, found.within)

pub returns-in-Some-clause-some : goal.returns-in-Some-clause-some
returns-in-Some-clause-some c = (first_line c.args.bytes.now (halves_seen c.in-Some.halved) (sym c.halve_at.ensures.value ∙ ap (option_map halves_seen) c.in-Some.is)).line

pub returns-in-None-clause-none : goal.returns-in-None-clause-none
returns-in-None-clause-none c = no_line c.args.bytes.now (sym c.halve_at.ensures.value ∙ ap (option_map halves_seen) c.in-None.is)
