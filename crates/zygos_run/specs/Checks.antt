-- How checking and reporting end before anything is written. No public clause cites this module.
use Rattle.std.specs.Prelude.{◌≡◌, ℕ, List, Result, Ok, Err}
use Rattle.zy_read.specs.declared.stop.Stop.{Stop}
use Rattle.zy_input.specs.declared.stop.Refusal.{Refusal}
use Rattle.zy_check.specs.declared.verdict.Verdict.{Verdict as Certified}
use Rattle.zy_read.specs.Seen.{Side, OfGiven}
use Rattle.zy_shell.specs.Input.Input.{CheckInput, JournalInput}
use Rattle.zy_shell.specs.Stops.{StopsAs}
use Rattle.zygos_run.specs.Checked.{IsChecked}
use Rattle.zygos_run.specs.Reported.{IsReported}

-- a check has its verdict, or it stopped
abbrev pub ChecksTo : ℕ → Side → Result Certified (Stop Refusal) → Type 0
ChecksTo shards source (Ok verdict) = OfGiven source (λ bytes. IsChecked shards bytes verdict)
ChecksTo shards source (Err stop) = StopsAs CheckInput source stop

-- a report was made, or it stopped
abbrev pub ReportsTo : Side → Result (List ℕ) (Stop Refusal) → Type 0
ReportsTo source (Ok made) = OfGiven source (λ bytes. IsReported bytes (λ table. made ≡ table))
ReportsTo source (Err stop) = StopsAs JournalInput source stop
