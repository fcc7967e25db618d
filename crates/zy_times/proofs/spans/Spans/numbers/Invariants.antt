use Rattle.std.proofs.Common.{◌≡◌, ◌≤◌, ℕ, length}
use Rattle.zy_times.specs.Recording.{Recording}
use Rattle.zy_times.specs.Times.{trues}
use Rattle.zy_times.specs.InTime.{commands_of_all, total_below}
use Rattle.zy_times.specs.Spans.{AreSpans}
use Rattle.zy_times.proofs.SpanLemmas.{flags_at}
use Rattle.zy_times.proofs.spans.Spans.numbers.Given as goal

abbrev pub invariant-loop-conn : goal.invariant-loop-conn
invariant-loop-conn l = record {
  within : l.conn ≤ length l.self.lines.items;
  commands : (r : Recording) (count : ℕ) → AreSpans r count l.self → l.commands ≡ commands_of_all r l.conn;
  ended : l.ended ≡ total_below (λ conn. trues (flags_at l.self conn)) l.conn;
}
