use Rattle.std.proofs.Common.{◌≡◌}
use Rattle.std.specs.Prelude.{vec_capacity}
use Rattle.zy_capture.specs.Streams.{no_bytes}
use Rattle.zy_capture.proofs.streams.Streams.new.Given as goal

abbrev pub invariant-loop : goal.invariant-loop
invariant-loop l = (l.connections.items ≡ no_bytes l.counter) × (vec_capacity l.connections ≡ l.count)
