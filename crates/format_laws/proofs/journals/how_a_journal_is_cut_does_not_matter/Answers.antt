use Rattle.format_laws.proofs.PieceLemmas.{pieces_fed}
use Rattle.zy_journal_reader.specs.Verdict.{journals}
use Rattle.format_laws.proofs.journals.how_a_journal_is_cut_does_not_matter.Goals as goal

pub returns : goal.returns
returns c = record { whole = pieces_fed journals }
