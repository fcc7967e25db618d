-- The recording of a run, as it is judged by `linear` and by `judge`.
use Rattle.std.specs.Prelude.{ℕ, Bool, List, []}
use Rattle.zy_capture.specs.declared.record.Record.{Record}
use Rattle.zy_journal.specs.declared.journal.Journal.{Journal}
use Rattle.zy_times.specs.Recording.{Recording}
use Rattle.zy_verdict.specs.Recorded.{Recorded}

-- the recording with these records, and the entries of this journal
abbrev pub run_recording : List Record → Journal → Recording
run_recording records journal = record { records = records; entries = journal.entries }

-- the recording with these records and outputs, if its server may have begun with items, and may have lost some
abbrev pub recorded_with : Bool → Bool → ℕ → ℕ → List Record → List (List (List ℕ)) → Recorded
recorded_with warm forget shards count records outputs = record {
  count = count;
  records = records;
  outputs = outputs;
  shards = shards;
  warm = warm;
  forget = forget;
  lasting = [];
}
