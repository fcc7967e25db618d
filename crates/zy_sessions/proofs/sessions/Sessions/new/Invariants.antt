use Rattle.std.proofs.Common.{◌≡◌, ◌≤◌, ℕ, [], length, vec_capacity, Some}
use Rattle.std.specs.List.{slice_get}
use Rattle.zy_sessions.specs.declared.line.Line.{Line}
use Rattle.zy_sessions.specs.Sessions.{LineHolds}
use Rattle.zy_sessions.proofs.sessions.Sessions.new.Given as goal

abbrev pub invariant-loop : goal.invariant-loop
invariant-loop l = record {
  size : length l.lines.items ≡ l.counter;
  room : l.count ≤ vec_capacity l.lines;
  each : (conn : ℕ) (line : Line) → slice_get l.lines.items conn ≡ Some line → LineHolds [] conn line;
}
