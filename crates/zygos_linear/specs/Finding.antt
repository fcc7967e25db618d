-- What is found of a recording: whether `check` says yes, and whether the journal is in time.
use Rattle.std.specs.Prelude.{◌≡◌, ℕ, List}
use Rattle.mc_calls.specs.declared.entry.Entry.{Entry}
use Rattle.zy_capture.specs.declared.record.Record.{Record}
use Rattle.zy_capture.specs.Outputs.{AllOutputs, AreOutputs}
use Rattle.zy_journal.specs.declared.journal.Journal.{Journal}
use Rattle.zy_input.specs.Parts.{IsMadeOfParts}
use Rattle.zy_check.specs.declared.verdict.Verdict.TheVariants.{Yes, No}
use Rattle.zy_check.specs.Given.{Given, all_given}
use Rattle.zy_check.specs.Cause.{HasVerdict}
use Rattle.zy_times.specs.declared.timing.Timing.TheVariants.{InTime, EarlyEnd, OutOfTime}
use Rattle.zy_times.specs.Recording.{Recording, MarksFit}
use Rattle.zy_times.specs.InTime.{IsInTime, IsEarlyEnd, IsOutOfTime, commands_of_all, EndedOfAll}
use Rattle.zygos_linear.specs.declared.finding.Finding.{Finding}
use Rattle.zygos_linear.specs.declared.finding.Finding.TheVariants.{NoRun, Run}

-- the verdict of `check` is yes, the marks fit, and the journal is in time; its `count` connections have this number of
-- commands, and some mark ends this number of them
pub record IsLinearizable (g : Given) (r : Recording) (count commands ended : ℕ) : Type 0 where
  pub run : HasVerdict g Yes
  pub marks : MarksFit r
  pub in_time : IsInTime r
  pub commands_are : commands ≡ commands_of_all r count
  pub ended_are : EndedOfAll r count ended

-- the definition of each finding, when `check` is given this, and the recording is this one, of `count`
-- connections
abbrev pub HasFinding : Given → Recording → ℕ → Finding → Type 0
HasFinding g r count (NoRun cause) = HasVerdict g (No cause)
HasFinding g r count (Run (EarlyEnd at)) = HasVerdict g Yes × IsEarlyEnd r at
HasFinding g r count (Run (OutOfTime entry after)) = HasVerdict g Yes × MarksFit r × IsOutOfTime r entry after
HasFinding g r count (Run (InTime commands ended)) = IsLinearizable g r count commands ended

-- the recording with these records and entries
abbrev pub recording_of : List Record → List Entry → Recording
recording_of records entries = record { records = records; entries = entries }

-- the bytes are a capture, a journal and a replies file, one after the other; `Holds` holds of what `check` is given by
-- them, of the recording, and of the number of its connections
pub record OfRecording (shards : ℕ) (bytes : List ℕ) (Holds : Given → Recording → ℕ → Type 0) : Type 0 where
  pub streams : List (List (List ℕ))
  pub journal : Journal
  pub outputs : AllOutputs
  pub parts : IsMadeOfParts bytes streams journal outputs
  pub lawful : AreOutputs outputs
  pub holds : Holds (all_given shards streams journal outputs)
      (recording_of parts.of_capture.records journal.entries) parts.of_capture.count
