-- What a run leaves: its journal, and its outputs.
use Rattle.std.specs.Prelude.{◌≡◌, ℕ, ◌<◌, ◌≤◌, List, None, Some, slice_get}
use Rattle.std.specs.List.{AllByRecursion}
use Rattle.mc_calls.specs.declared.hold.Hold.{Hold}
use Rattle.mc_calls.specs.Bounds.{FitsEntry}
use Rattle.mc_calls.specs.Order.{IsOrdered}
use Rattle.zy_capture.specs.declared.record.Record.{Record}
use Rattle.zy_capture.specs.Outputs.{AreOutputs}
use Rattle.zy_journal.specs.Journal.{IsJournal}
use Rattle.zy_run.specs.Commands.{streams_in, commands_in}
use Rattle.zy_run.specs.Run.{IsRun}
use Rattle.zy_run.specs.Output.{all_outputs}
use Rattle.zy_run.specs.Spans.{Spans}
use Rattle.zy_feed.specs.Routing.{offered_to}
use Rattle.zy_home.specs.Home.{Homed, HomeStands}
use Rattle.zy_finish.specs.declared.finishing.Finished.{Finished}

-- each home may have received all that its core is offered of these records
abbrev pub HaveReceived : List Homed → List Record → Type 0
HaveReceived homes records = (core : ℕ) (h : Homed) → slice_get homes core ≡ Some h
    → HomeStands h (offered_to h.cores h.core records)

-- one of this number of cores held a connection, and finished 1 to 64 of its commands
pub record IsHoldBy (cores : ℕ) (hold : Hold) : Type 0 where
  pub core_is : hold.core < cores
  pub some : 1 ≤ hold.count
  pub limit : hold.count ≤ 64

-- the result of a run on `shards` shards of the records of a capture
pub record IsResultOfRun (shards version count : ℕ) (records : List Record) (finished : Finished) : Type 0 where
  -- the journal's entries are one legal run of the commands of all connections
  pub run : IsRun shards finished.journal.entries count (commands_in records)
  -- in order of stamp and shard
  pub order : IsOrdered None finished.journal.entries
  -- its holds span the commands
  pub spans : Spans finished.journal.holds count (commands_in records)
  -- and it is within the bounds of its format
  pub journal : IsJournal finished.journal
  -- its numbers fit their fields
  pub fits : AllByRecursion FitsEntry finished.journal.entries
  -- the outputs are of this version, and are those of the run, session by session
  pub version_is : finished.outputs.version ≡ version
  pub outputs : finished.outputs.sessions ≡ all_outputs count (streams_in records) finished.journal.entries
  -- they are valid
  pub lawful : AreOutputs finished.outputs
