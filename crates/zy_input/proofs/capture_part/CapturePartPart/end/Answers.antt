use Rattle.std.proofs.Common.{refl}
use Rattle.zy_capture.specs.Verdict.{captures, is_good}
use Rattle.zy_input.proofs.FormatLemmas.{none_yet}
use Rattle.zy_input.proofs.CaptureLemmas.{once, streams_of, streams_there}
use Rattle.zy_input.proofs.capture_part.CapturePartPart.end.Goals as goal

pub unreachable-requires : goal.unreachable-requires
unreachable-requires g c = absurd (streams_there g.N.Notes.holds c.args.self c.requires.fed.1 c.requires.fed.2 c.in-Ok-None.is-1 c.in-Ok-None.ensures.value)

pub returns-in-Ok-Some-clause-whole : goal.returns-in-Ok-Some-clause-whole
returns-in-Ok-Some-clause-whole g c setting bytes stands whole = streams_of g.N.Notes.holds c.args.self c.in-Ok-Some.kept bytes stands c.in-Ok-Some.is-1 c.in-Ok-Some.ensures.value

pub returns-clause-cut : goal.returns-clause-cut
returns-clause-cut g c setting bytes stands goes_on = (c.in-Err-default.fault, refl, none_yet captures is_good once bytes goes_on, c.in-Err-default.ensures.value stands.given bytes stands.reader)
