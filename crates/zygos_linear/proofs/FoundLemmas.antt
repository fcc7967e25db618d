-- What is found of a run.
use Rattle.std.proofs.Common.{ℕ, List, Bool, subst}
use Rattle.zy_capture.specs.declared.record.Record.{Record}
use Rattle.zy_capture.specs.Outputs.{AllOutputs}
use Rattle.zy_journal.specs.declared.journal.Journal.{Journal}
use Rattle.zy_check.specs.declared.answered.Checked.TheVariants as Found
use Rattle.zy_check.specs.Given.{all_given}
use Rattle.zy_check.specs.Checked.{IsCheckedAs}
use Rattle.zy_times.specs.declared.times.Times.{Times}
use Rattle.zy_times.specs.declared.timing.Timing.{Timing}
use Rattle.zy_times.specs.declared.timing.Timing.TheVariants.{InTime, EarlyEnd, OutOfTime}
use Rattle.zy_times.specs.Recording.{Recording}
use Rattle.zy_times.specs.InTime.{HasTiming}
use Rattle.zy_times.specs.Recorded.{IsRecorded}
use Rattle.zy_times.proofs.CheckedLemmas.{recorded_as_checked}
use Rattle.zygos_linear.specs.declared.finding.Finding.TheVariants.{Run}
use Rattle.zygos_linear.specs.Finding.{HasFinding, recording_of}
use Rattle.zygos_linear.specs.Input.{AreOfRecords}

module _ (shards count : ℕ) (streams : List (List (List ℕ))) (records : List Record) (journal : Journal) (outputs : AllOutputs) (times : Times) (of : AreOfRecords streams times count records) (answered : List (List Bool))
    (checked : IsCheckedAs (all_given shards streams journal outputs) (Found.Yes answered)) where
  -- it is what judging needs
  pub recorded_run : IsRecorded (recording_of records journal.entries) count times answered journal.entries
  recorded_run =
      let are = subst (λ (s : List (List (List ℕ))). IsCheckedAs (all_given shards s journal outputs) (Found.Yes answered)) of.joined checked in
      recorded_as_checked shards count records journal outputs times answered of.times_hold are.0 are.1

  -- what judging finds is found of the recording
  pub found_run : (timing : Timing) → ((r : Recording) (n : ℕ) → IsRecorded r n times answered journal.entries → HasTiming r n timing) → HasFinding (all_given shards streams journal outputs) (recording_of records journal.entries) count (Run timing)
  found_run (InTime commands ended) timed =
      let found = timed (recording_of records journal.entries) count recorded_run in
      record { run = checked.0; marks = found.0; in_time = found.1; commands_are = found.2; ended_are = found.3 }
  found_run (EarlyEnd at) timed = (checked.0, timed (recording_of records journal.entries) count recorded_run)
  found_run (OutOfTime entry after) timed =
      let found = timed (recording_of records journal.entries) count recorded_run in (checked.0, found.0, found.1)
