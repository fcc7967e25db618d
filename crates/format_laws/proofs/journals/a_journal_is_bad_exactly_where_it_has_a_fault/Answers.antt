use Rattle.format_laws.proofs.FaultLemmas.{IsTold, exactly}
use Rattle.format_laws.specs.Faults.{IsWrongForm}
use Rattle.format_laws.specs.JournalFaults.{IsAnyJournal, IsWrongJournal}
use Rattle.zy_read.proofs.VerdictLemmas.{whole_good}
use Rattle.zy_journal_reader.specs.Steps.{journal_fields}
use Rattle.zy_journal_reader.specs.Verdict.{good_journal, journal_in}
use Rattle.zy_journal_reader.specs.Verdict.JournalVerdict.{Bad}
use Rattle.zy_journal_reader.specs.Laws.{journal_lawful}
use Rattle.zy_journal_reader.proofs.WholeLemmas.{good_spells}
use Rattle.zy_journal_reader.proofs.SpelledLemmas.{spells_good}
use Rattle.format_laws.proofs.JournalFaultLemmas.{misjudged_wrong}
use Rattle.format_laws.proofs.JournalFaultReadLemmas.{wrong_bad}
use Rattle.format_laws.proofs.journals.a_journal_is_bad_exactly_where_it_has_a_fault.Goals as goal

-- what is known of its wrong fields
known : IsTold journal_fields good_journal Bad IsAnyJournal (IsWrongForm IsWrongJournal)
known = record {
  lawful = journal_lawful;
  same = λ fault other is. cc;
  not_good = λ s given fault is. cc;
  file = λ text s given all whole. (journal_in s, good_spells text (journal_in s) all (whole_good journal_fields journal_lawful good_journal Bad text s given whole));
  not_bad = λ text fault file is. let good_is = spells_good text file.0 file.1 in cc;
  wrong = misjudged_wrong;
  wrong_bad = wrong_bad;
  not_cut = λ text at wrong. wrong;
}

pub returns : goal.returns
returns c = record { exactly = exactly _ _ _ _ _ known }
