use Rattle.std.proofs.Common.{◌≡◌, ℕ, ◌<◌, Some, slice_get, false, take, vec_len}
use Rattle.zy_core.specs.Core.{Cored}
use Rattle.zy_rounds.specs.Counting.{IsNoted, NotesTo, some_due}
use Rattle.zy_rounds.specs.Turns.{turns_of}
use Rattle.zy_rounds.proofs.CoreLemmas.{SameFrom, RelatedBelow}
use Rattle.zy_core.specs.Cores.{identities}
use Rattle.zy_rounds.proofs.turns.note_each.Given as goal

abbrev pub invariant-loop-i : goal.invariant-loop-i
invariant-loop-i l = record {
  same : identities l.cores.items ≡ identities l.fn.cores.items;
  len : vec_len l.cores ≡ vec_len l.fn.cores;
  value : l.counted ≡ some_due (take l.i l.fn.cores.items);
  notes : RelatedBelow NotesTo l.i l.fn.cores.items l.cores.items;
  rest : SameFrom l.i l.fn.cores.items l.cores.items;
  turns : turns_of l.cores.items ≡ turns_of l.fn.cores.items;
  noted : (k : ℕ) (c : Cored) → k < l.i → slice_get l.cores.items k ≡ Some c → IsNoted c;
  kept : l.counted ≡ false → l.cores.items ≡ l.fn.cores.items;
}
