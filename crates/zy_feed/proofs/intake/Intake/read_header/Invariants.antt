use Rattle.std.proofs.Common.{◌≤◌, ℕ, List, [], length}
use Rattle.zy_feed.specs.Reads.{HasRead}
use Rattle.zy_feed.proofs.intake.Intake.read_header.Given as goal

-- at least one byte was read in each round, and no record was cut
abbrev pub invariant-loop : goal.invariant-loop
invariant-loop g l = record {
  count : g.S.Source.faults l.initial.source ≤ g.S.Source.faults l.source;
  read : (bytes : List ℕ) × ((l.counter ≤ length bytes) × HasRead g.S.Source.rest g.S.Source.faults l.initial.source l.source l.self [] bytes);
}
