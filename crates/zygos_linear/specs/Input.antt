-- How judging ends before anything is written. No public clause cites this module.
use Rattle.std.specs.Prelude.{◌≡◌, ℕ, List, Result, Ok, Err}
use Rattle.zy_capture.specs.declared.record.Record.{Record}
use Rattle.zy_capture.specs.Streams.{no_bytes, with_records}
use Rattle.zy_input.specs.declared.stop.Refusal.{Refusal}
use Rattle.zy_read.specs.declared.stop.Stop.{Stop}
use Rattle.zy_read.specs.Seen.{Side, OfGiven}
use Rattle.zy_times.specs.declared.times.Times.{Times}
use Rattle.zy_times.specs.Line.{TimesHold}
use Rattle.zy_shell.specs.Input.Input.{CheckInput}
use Rattle.zy_shell.specs.Stops.{StopsAs}
use Rattle.zygos_linear.specs.declared.finding.Finding.{Finding}
use Rattle.zygos_linear.specs.Finding.{HasFinding, OfRecording}

-- these streams and times are those of the records of `count` connections
pub record AreOfRecords (streams : List (List (List ℕ))) (times : Times) (count : ℕ) (records : List Record)
    : Type 0 where
  pub joined : streams ≡ with_records (no_bytes count) records
  pub times_hold : TimesHold times count records

-- this was found of the input, or reading stopped
abbrev pub FindsIn : ℕ → Side → Result Finding (Stop Refusal) → Type 0
FindsIn shards source (Ok finding) =
    OfGiven source (λ bytes. OfRecording shards bytes (λ g r count. HasFinding g r count finding))
FindsIn shards source (Err stop) = StopsAs CheckInput source stop
