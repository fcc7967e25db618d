use Rattle.zy_read.proofs.Feeding.{fault_stays, fault_lasts}
use Rattle.zy_read.specs.FieldsLasting.{lasting}
use Rattle.zy_journal_reader.specs.Steps.{journal_fields}
use Rattle.zy_journal_reader.specs.Verdict.{journals, good_journal}
use Rattle.zy_journal_reader.specs.Verdict.JournalVerdict.{Bad}
use Rattle.format_laws.proofs.journals.the_first_fault_of_a_journal_counts.Goals as goal

pub returns : goal.returns
returns c = record { stays = fault_stays journals (lasting journal_fields good_journal Bad); lasts = fault_lasts journals (lasting journal_fields good_journal Bad) }
