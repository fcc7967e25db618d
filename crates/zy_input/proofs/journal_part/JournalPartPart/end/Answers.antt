use Rattle.std.proofs.Common.{refl}
use Rattle.zy_journal_reader.specs.Verdict.{journals}
use Rattle.zy_input.specs.Kinds.{is_whole}
use Rattle.zy_input.proofs.FormatLemmas.{bad_not_whole, none_yet}
use Rattle.zy_input.proofs.JournalLemmas.{once_until}
use Rattle.zy_input.proofs.journal_part.JournalPartPart.end.Goals as goal

pub returns-in-Err-clause-whole : goal.returns-in-Err-clause-whole
returns-in-Err-clause-whole c until bytes stands whole = absurd (bad_not_whole journals (is_whole until) (once_until until) bytes c.in-Err.fault (c.in-Err.ensures.value stands.given bytes stands.reader) whole)

pub returns-in-Err-clause-cut : goal.returns-in-Err-clause-cut
returns-in-Err-clause-cut c until bytes stands goes_on = (c.in-Err.fault, refl, none_yet journals (is_whole until) (once_until until) bytes goes_on, c.in-Err.ensures.value stands.given bytes stands.reader)
