use Rattle.format_laws.proofs.PieceLemmas.{same_given, same_state}
use Rattle.zy_journal_reader.specs.Verdict.{journals}
use Rattle.format_laws.proofs.journals.what_is_read_depends_on_the_bytes_alone.Goals as goal

pub returns : goal.returns
returns c = record { given = same_given journals; state = same_state journals }
