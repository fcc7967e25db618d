use Rattle.std.proofs.Common.{All, take}
use Rattle.zy_refute.specs.Shared.{IsTaker}
use Rattle.zy_refute.proofs.sharing.are_takers.Given as goal

-- each call so far takes the fact away
abbrev pub invariant-loop-reader : goal.invariant-loop-reader
invariant-loop-reader l = All (IsTaker l.calls l.fact) (take l.reader-index l.readers)
