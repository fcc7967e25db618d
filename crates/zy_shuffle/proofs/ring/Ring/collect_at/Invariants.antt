use Rattle.std.proofs.Common.{◌≡◌, ℕ, ◌<◌, ◌≤◌}
use Rattle.zy_shuffle.specs.Pass.{Rang, held, tail_of}
use Rattle.zy_shuffle.specs.Run.{MakesNone}
use Rattle.zy_shuffle.specs.PassSeat.{IsHomeSeat}
use Rattle.zy_shuffle.proofs.ring.Ring.collect_at.Given as goal

abbrev pub invariant-loop-word : goal.invariant-loop-word
invariant-loop-word g l = record {
  table : l.seat.table_id ≡ l.fn.seat.table_id;
  seat : l.seat.id ≡ l.fn.seat.id;
  home : IsHomeSeat l.seat.table_id.slots (tail_of l.fn.seat.me.0.role) l.seat.me;
  same : held l.fn.seat.table_id l.seat.me.0 ≡ record (held l.fn.seat.table_id l.fn.seat.me.0) { trace = l.seat.me.0.trace };
  steps : l.fn.seat.me.0.trace.steps ≤ l.seat.me.0.trace.steps;
  run : MakesNone l.fn.seat.me.0.trace l.seat.me.0.trace;
  rang : (q : ℕ) → q < l.word → Rang l.fn.seat.me.0.trace.steps q 0 l.seat.me.0.trace;
}
