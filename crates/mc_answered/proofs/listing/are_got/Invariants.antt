use Rattle.std.proofs.Common.{drop}
use Rattle.mc_answers.specs.Said.{AreGot}
use Rattle.mc_answered.proofs.listing.are_got.Given as goal

-- those so far may be said
abbrev pub invariant-loop-i : goal.invariant-loop-i
invariant-loop-i l = AreGot (drop l.i l.keys) (drop l.i l.saids) → AreGot l.keys l.saids
