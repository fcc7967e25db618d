use Rattle.std.proofs.Common.{◌≡◌, take, vec_len}
use Rattle.std.specs.Prelude.{◌≢◌}
use Rattle.zy_rounds.specs.declared.round.Round.TheVariants as Round
use Rattle.zy_core.specs.Cores.{identities}
use Rattle.zy_rounds.specs.Turns.{AllTurned}
use Rattle.zy_rounds.proofs.CoreLemmas.{SameFrom}
use Rattle.zy_rounds.proofs.turns.turn_each.Given as goal

abbrev pub invariant-loop-i : goal.invariant-loop-i
invariant-loop-i g l = record {
  same : identities l.cores.items ≡ identities l.fn.cores.items;
  len : vec_len l.cores ≡ vec_len l.fn.cores;
  came : AllTurned (take l.i l.fn.cores.items) (take l.i l.cores.items) l.fn.looks l.looks Round.Idle l.round;
  rest : SameFrom l.i l.fn.cores.items l.cores.items;
  awake : l.round ≢ Round.Rested;
}
