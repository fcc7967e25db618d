use Rattle.std.proofs.Common.{refl}
use Rattle.zy_journal.specs.Journal.{call_text, reply_text, entry_head, entry_text, hold_text, journal_bytes}
use Rattle.format_laws.proofs.journals.the_worked_journal_has_its_bytes.Goals as goal

pub returns : goal.returns
unfolding call_text reply_text entry_head entry_text hold_text journal_bytes
returns c = record { value = refl }
