use Rattle.std.proofs.Common.{◌≤◌, ℕ, List, ◌++◌, length}
use Rattle.zy_capture.specs.declared.record.Record.{Record}
use Rattle.zy_feed.specs.Reads.{HasRead}
use Rattle.zy_feed.proofs.intake.Intake.cut.Given as goal

-- at least one byte was read in each round, and no record ended
abbrev pub invariant-loop : goal.invariant-loop
invariant-loop g l = record {
  count : g.S.Source.faults l.initial.source ≤ g.S.Source.faults l.source;
  read : (first : g.row.S.Denot) (records : List Record) (bytes : List ℕ) → HasRead g.S.Source.rest g.S.Source.faults first l.initial.source l.initial.self records bytes
      → (more : List ℕ) × ((l.counter ≤ length more) × HasRead g.S.Source.rest g.S.Source.faults first l.source l.self records (bytes ++ more));
}
