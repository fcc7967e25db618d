use Rattle.std.proofs.Common.{◌≡◌}
use Rattle.zy_park.specs.Bell.{tables_of, views_of}
use Rattle.zy_park.proofs.SeatLemmas.{rung_first}
use Rattle.zy_park.proofs.bells.ringing.ring_each_at.Given as goal

-- the tokens of the cores before this one are put
abbrev pub invariant-loop-core : goal.invariant-loop-core
invariant-loop-core l = record {
  bells : tables_of l.seats.items ≡ tables_of l.fn.seats.items;
  value : views_of l.seats.items ≡ rung_first l.core l.word 0 (views_of l.fn.seats.items);
}
