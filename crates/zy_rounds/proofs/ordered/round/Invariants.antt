use Rattle.std.proofs.Common.{◌≡◌, vec_len}
use Rattle.std.specs.Prelude.{◌↔◌}
use Rattle.zy_core.specs.Cores.{identities}
use Rattle.zy_rx.specs.Feed.{rings_of}
use Rattle.zy_rounds.specs.Turns.{turns_of}
use Rattle.zy_rounds.proofs.OrderLemmas.{TurnedSoFar}
use Rattle.zy_rounds.proofs.ordered.round.Given as goal

abbrev pub invariant-loop-turn : goal.invariant-loop-turn
invariant-loop-turn g l = record {
  same : identities l.cores.items ≡ identities l.fn.cores.items;
  len : vec_len l.cores ≡ vec_len l.fn.cores;
  turned : TurnedSoFar l.count l.first l.turn (turns_of l.fn.cores.items) (turns_of l.cores.items);
  leads : g.F.Feeder.leads l.fn.feeder l.feeder;
  rings : rings_of (g.F.Feeder.inlets l.feeder) ≡ rings_of (g.F.Feeder.inlets l.fn.feeder);
  ended : (g.F.Feeder.ended l.feeder ↔ g.F.Feeder.ended l.fn.feeder) × (g.F.Feeder.broken l.feeder ↔ g.F.Feeder.broken l.fn.feeder);
}
