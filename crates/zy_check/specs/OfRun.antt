-- When a journal and outputs are those of a run.
use Rattle.std.specs.Prelude.{◌≡◌, ℕ, List, length}
use Rattle.zy_capture.specs.declared.record.Record.{Record}
use Rattle.zy_capture.specs.Outputs.{AllOutputs}
use Rattle.zy_capture.specs.Streams.{sessions_of, no_bytes, with_records}
use Rattle.zy_journal.specs.declared.journal.Journal.{Journal}
use Rattle.zy_run.specs.Commands.{streams_in, commands_in, commands_held}
use Rattle.zy_run.specs.Run.{IsRun}
use Rattle.zy_run.specs.Output.{connection_outputs, all_outputs}
use Rattle.zy_run.specs.Spans.{Spans}
use Rattle.zy_check.specs.Given.{Given, all_given}

-- the files are those of a run
pub record IsGivenByRun (g : Given) : Type 0 where
  -- the entries are one run of the commands of all streams
  pub run : IsRun g.shards g.entries (length g.streams) (commands_held g.streams)
  -- each connection has the outputs of that run
  pub outputs : (conn : ℕ) → sessions_of g.outputs conn ≡ connection_outputs conn (sessions_of g.streams conn) g.entries
  -- and the holds span the commands
  pub holds : Spans g.holds (length g.streams) (commands_held g.streams)

-- a journal and outputs are those of a run of the commands of these records, which belong to
-- `count` connections
pub record AreOfRun (shards count : ℕ) (records : List Record) (journal : Journal) (outputs : AllOutputs) : Type 0 where
  pub run : IsRun shards journal.entries count (commands_in records)
  pub replies : outputs.sessions ≡ all_outputs count (streams_in records) journal.entries
  pub holds : Spans journal.holds count (commands_in records)

-- these records' streams, a journal and outputs
abbrev pub given_by_records : ℕ → ℕ → List Record → Journal → AllOutputs → Given
given_by_records shards count records journal outputs =
    all_given shards (with_records (no_bytes count) records) journal outputs
