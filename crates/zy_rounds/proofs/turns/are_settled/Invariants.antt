use Rattle.std.proofs.Common.{◌≡◌, ℕ, ◌<◌, Some, slice_get, true}
use Rattle.zy_home.specs.Home.{is_settled}
use Rattle.zy_core.specs.Core.{Cored}
use Rattle.zy_rounds.proofs.turns.are_settled.Given as goal

abbrev pub invariant-loop-i : goal.invariant-loop-i
invariant-loop-i l = record {
  settled : (k : ℕ) (c : Cored) → k < l.i → slice_get l.cores k ≡ Some c → is_settled c.home ≡ true;
}
