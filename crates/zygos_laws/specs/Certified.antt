-- What a check says of files: of those of a served run, and of those on which the verdict is yes.
use Rattle.std.specs.Prelude.{◌≡◌, ℕ, List, ◌++◌}
use Rattle.zy_capture.specs.declared.record.Record.{Record}
use Rattle.zy_capture.specs.Capture.{Spells}
use Rattle.zy_capture.specs.Outputs.{AllOutputs}
use Rattle.zy_capture.specs.Replies.{SpellsReplies, items_of}
use Rattle.zy_journal.specs.declared.journal.Journal.{Journal}
use Rattle.zy_journal_reader.specs.Verdict.{SpellsJournal}
use Rattle.zy_check.specs.declared.verdict.Verdict.TheVariants.{Yes}
use Rattle.zy_check.specs.OfRun.{AreOfRun}
use Rattle.zy_command_line.specs.declared.request.Run.{Run}
use Rattle.zy_command_line.specs.declared.request.Out.{Out}
use Rattle.zy_command_line.specs.declared.request.Out.TheVariants.{Both}
use Rattle.zy_read.specs.Seen.{Side, WasWritten}
use Rattle.zy_serving.specs.Headline.{written}
use Rattle.zygos_run.specs.Checked.{IsChecked}

-- the bytes are a capture, a journal and a replies file, one after the other, and the capture's records have a run
-- with this journal and these outputs
pub record IsInputOfRun (shards : ℕ) (bytes : List ℕ) : Type 0 where
  pub capture_text : List ℕ
  pub journal_text : List ℕ
  pub replies_text : List ℕ
  pub version : ℕ
  pub count : ℕ
  pub records : List Record
  pub journal : Journal
  pub outputs : AllOutputs
  pub whole : bytes ≡ capture_text ++ (journal_text ++ replies_text)
  pub of_capture : Spells capture_text version count records
  pub of_journal : SpellsJournal journal_text journal
  pub of_replies : SpellsReplies replies_text outputs.version (items_of outputs)
  pub run : AreOfRun shards count records journal outputs

-- the requested output was written of a served run, and the verdict on the capture with the run's journal and
-- replies after it is yes
pub record IsCertified (asked : Run) (out : Out) (bytes : List ℕ) (journal : Journal) (sink : Side) : Type 0 where
  pub outputs : AllOutputs
  pub wrote : WasWritten sink (written out journal outputs)
  pub checks : IsChecked asked.shards (bytes ++ written Both journal outputs) Yes
