use Rattle.std.proofs.Common.{◌≡◌, ◌≤◌, ℕ, length, vec_capacity, Some}
use Rattle.std.specs.List.{slice_get}
use Rattle.zy_run.specs.Commands.{commands_in}
use Rattle.zy_times.specs.Recording.{Recording}
use Rattle.zy_times.specs.Recorded.{IsKept}
use Rattle.zy_times.specs.Fitting.{FoundUnfitConnection}
use Rattle.zy_times.specs.Spans.{AreSpansBelow}
use Rattle.zy_times.proofs.spans.find_spans.Given as goal

abbrev pub invariant-loop-conn : goal.invariant-loop-conn
invariant-loop-conn l = record {
  size : length l.lines.items ≡ l.conn;
  room : length l.times.lines.items ≤ vec_capacity l.lines;
  within : l.conn ≤ length l.times.lines.items;
  each : (r : Recording) (count : ℕ) → IsKept r count l.times l.answered → (conn : ℕ) (line : _) → slice_get l.lines.items conn ≡ Some line → AreSpansBelow r conn (length (commands_in r.records conn)) line.items;
  unfit : (r : Recording) (count : ℕ) → IsKept r count l.times l.answered → FoundUnfitConnection r l.conn l.unfit;
}
