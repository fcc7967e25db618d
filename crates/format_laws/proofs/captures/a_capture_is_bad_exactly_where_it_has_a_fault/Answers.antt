use Rattle.format_laws.proofs.FaultLemmas.{IsTold, exactly}
use Rattle.format_laws.specs.CaptureFaults.{IsAnyCapture, IsWrongCapture}
use Rattle.zy_capture.specs.Steps.{fields}
use Rattle.zy_capture.specs.Verdict.Verdict.{Bad}
use Rattle.zy_capture.specs.Verdict.{good}
use Rattle.zy_capture.proofs.WholeLemmas.{lawful, whole_spells, spells_good}
use Rattle.format_laws.proofs.CaptureFaultLemmas.{misjudged_wrong}
use Rattle.format_laws.proofs.CaptureFaultReadLemmas.{wrong_bad}
use Rattle.format_laws.proofs.captures.a_capture_is_bad_exactly_where_it_has_a_fault.Goals as goal

-- what is known of its wrong fields
known : IsTold fields good Bad IsAnyCapture IsWrongCapture
known = record {
  lawful = lawful;
  same = λ fault other is. cc;
  not_good = λ s given fault is. cc;
  file = λ text s given all whole. (s.version, (s.count, (given, whole_spells text s given all whole)));
  not_bad = λ text fault file is. let good_is = spells_good text file.0 file.1.0 file.1.1.0 file.1.1.1 in cc;
  wrong = misjudged_wrong;
  wrong_bad = wrong_bad;
  not_cut = λ text at wrong. wrong;
}

pub returns : goal.returns
returns c = record { exactly = exactly _ _ _ _ _ known }
