use Rattle.std.proofs.Common.{ℕ, ◌≤◌, ◌-◌, [], length, take}
use Rattle.zy_read.specs.Runs.{RunsOver}
use Rattle.zy_journal_reader.specs.Found.{IsAtRecord}
use Rattle.zy_journal_reader.specs.Steps.{journal_fields}
use Rattle.zy_journal_reader.proofs.state.JournalState.take_records.Given as goal

-- whole records were taken
abbrev pub invariant-loop-alloc : goal.invariant-loop-alloc
invariant-loop-alloc l = record {
  within : l.run ≤ length l.bytes;
  there : IsAtRecord l.self;
  runs : (at : ℕ) → RunsOver journal_fields l.fn.self at (take l.run l.bytes) l.self [];
}

abbrev pub decreases-loop-alloc : goal.decreases-loop-alloc
decreases-loop-alloc l = length l.bytes - l.run
