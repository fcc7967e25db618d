use Rattle.format_laws.proofs.FaultLemmas.{IsTold, exactly}
use Rattle.format_laws.specs.Faults.{IsWrongForm}
use Rattle.format_laws.specs.RepliesFaults.{IsAnyReplies, IsWrongReplies}
use Rattle.zy_capture.specs.RepliesSteps.{replies_fields}
use Rattle.zy_capture.specs.RepliesVerdict.{good}
use Rattle.zy_capture.specs.RepliesVerdict.Verdict.{Bad}
use Rattle.zy_capture.specs.RepliesLaws.{lawful}
use Rattle.zy_capture.proofs.RepliesWholeLemmas.{whole_spells}
use Rattle.format_laws.proofs.RepliesSpelledLemmas.{spells_good}
use Rattle.format_laws.proofs.RepliesFaultLemmas.{misjudged_wrong}
use Rattle.format_laws.proofs.RepliesFaultReadLemmas.{has_bad}
use Rattle.format_laws.proofs.replies.a_replies_file_is_bad_exactly_where_it_has_a_fault.Goals as goal

-- what is known of its wrong fields
known : IsTold replies_fields good Bad IsAnyReplies (IsWrongForm IsWrongReplies)
known = record {
  lawful = lawful;
  same = λ fault other is. cc;
  not_good = λ s given fault is. cc;
  file = λ text s given all whole. (s.version, (given, whole_spells text s given all whole));
  not_bad = λ text fault file is. let good_is = spells_good text file.0 file.1.0 file.1.1 in cc;
  wrong = misjudged_wrong;
  wrong_bad = has_bad;
  not_cut = λ text at wrong. wrong;
}

pub returns : goal.returns
returns c = record { exactly = exactly _ _ _ _ _ known }
