use Rattle.std.proofs.Common.{refl}
use Rattle.zy_capture.specs.RepliesVerdict.{replies}
use Rattle.zy_input.proofs.FormatLemmas.{none_ever}
use Rattle.zy_input.proofs.RepliesLemmas.{outputs_of_file, outputs_there}
use Rattle.zy_input.proofs.replies_part.RepliesPartPart.end.Goals as goal

pub unreachable-requires : goal.unreachable-requires
unreachable-requires c = absurd (outputs_there c.args.self c.requires.fed.1 c.requires.fed.2 c.in-Ok-None.is-1 c.in-Ok-None.ensures.value)

pub returns-in-Ok-Some-clause-cut : goal.returns-in-Ok-Some-clause-cut
returns-in-Ok-Some-clause-cut c setting bytes stands goes_on = outputs_of_file c.args.self c.in-Ok-Some.outputs bytes stands c.in-Ok-Some.is-1 c.in-Ok-Some.ensures.value

pub returns-clause-cut : goal.returns-clause-cut
returns-clause-cut c setting bytes stands goes_on = (c.in-Err-default.fault, refl, none_ever replies bytes, c.in-Err-default.ensures.value stands.given bytes stands.reader)
