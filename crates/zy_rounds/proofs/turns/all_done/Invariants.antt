use Rattle.std.proofs.Common.{◌≡◌, ℕ, ◌<◌, Some, slice_get, true, vec_len}
use Rattle.zy_home.specs.Home.{is_settled}
use Rattle.zy_core.specs.Core.{Cored}
use Rattle.zy_core.specs.Cores.{identities}
use Rattle.zy_rounds.specs.Turns.{turns_of}
use Rattle.zy_rounds.proofs.turns.all_done.Given as goal

abbrev pub invariant-loop-i : goal.invariant-loop-i
invariant-loop-i l = record {
  same : identities l.cores.items ≡ identities l.fn.cores.items;
  len : vec_len l.cores ≡ vec_len l.fn.cores;
  turns : turns_of l.cores.items ≡ turns_of l.fn.cores.items;
  settled : (k : ℕ) (c : Cored) → k < l.i → slice_get l.cores.items k ≡ Some c → is_settled c.home ≡ true;
}
