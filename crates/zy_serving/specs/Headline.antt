-- The headline: what a served run is.
use Rattle.std.specs.Prelude.{◌≡◌, ℕ, List, [], ◌++◌, None}
use Rattle.std.specs.List.{AllByRecursion}
use Rattle.mc_calls.specs.declared.entry.Entry.{Entry}
use Rattle.mc_calls.specs.Order.{IsOrdered}
use Rattle.zy_capture.specs.declared.record.Record.{Record}
use Rattle.zy_capture.specs.Capture.{Spells}
use Rattle.zy_capture.specs.Outputs.{AllOutputs, AreOutputs}
use Rattle.zy_capture.specs.Replies.{replies_bytes}
use Rattle.zy_capture.specs.Verdict.{verdict}
use Rattle.zy_capture.specs.Verdict.Verdict.{Good}
use Rattle.zy_journal.specs.declared.journal.Journal.{Journal}
use Rattle.zy_journal.specs.Journal.{journal_bytes}
use Rattle.zy_journal_reader.specs.Verdict.{IsReadable}
use Rattle.zy_run.specs.Commands.{streams_in, commands_in}
use Rattle.zy_run.specs.Run.{IsRun}
use Rattle.zy_run.specs.Output.{all_outputs}
use Rattle.zy_run.specs.Spans.{Spans}
use Rattle.zy_finish.specs.Finish.{IsHoldBy}
use Rattle.zy_command_line.specs.declared.request.Run.{Run}
use Rattle.zy_command_line.specs.declared.request.Out.{Out}
use Rattle.zy_command_line.specs.declared.request.Out.TheVariants.{Replies, Both}

-- the outputs of all connections of these records, by the replies in the entries
abbrev pub outputs_of_records : ℕ → ℕ → List Record → List Entry → AllOutputs
outputs_of_records version count records es =
    record { version = version; sessions = all_outputs count (streams_in records) es }

-- what is written before the replies: nothing, or the journal
abbrev pub front : Out → Journal → List ℕ
front Replies journal = []
front Both journal = journal_bytes journal

-- what is written of a run: the journal if it is requested, and the replies
abbrev pub written : Out → Journal → AllOutputs → List ℕ
written out journal outputs = front out journal ++ replies_bytes outputs

-- the bytes are a capture, the journal is that of a served run of it on the requested numbers of shards and cores, and
-- these are its outputs
pub record IsServed (asked : Run) (bytes : List ℕ) (journal : Journal) (outputs : AllOutputs) : Type 0 where
  pub version : ℕ
  pub count : ℕ
  pub records : List Record
  -- the bytes are a capture, with these records
  pub capture : verdict bytes ≡ Good version count records
  -- and the bytes are the encoding of these
  pub spelled : Spells bytes version count records
  -- the entries are one legal run of its commands: each is executed once, in the order of
  -- arrival, none after quit, and none is left
  pub run : IsRun asked.shards journal.entries count (commands_in records)
  -- the entries are in the order of their stamps
  pub order : IsOrdered None journal.entries
  -- the holds add up to the commands of each connection
  pub holds : Spans journal.holds count (commands_in records)
  -- each is by one of the requested cores, and is of 1 to 64 commands
  pub held : AllByRecursion (IsHoldBy asked.cores) journal.holds
  -- the outputs are exactly each session's replies in that order
  pub replies : outputs ≡ outputs_of_records version count records journal.entries
  -- the journal is within the bounds of its format, so it can be written and read again
  pub readable : IsReadable journal
  -- the outputs are within the bounds of their format
  pub lawful : AreOutputs outputs

-- the same, and this holds of the text that is expected of it
pub record IsWritten (asked : Run) (out : Out) (bytes : List ℕ) (journal : Journal)
    (Writes : List ℕ → Type 0) : Type 0 where
  pub outputs : AllOutputs
  pub served : IsServed asked bytes journal outputs
  pub wrote : Writes (written out journal outputs)
