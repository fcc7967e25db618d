use Rattle.std.proofs.Common.{All, take}
use Rattle.zy_refute.specs.Shared.{IsNoStartAt}
use Rattle.zy_refute.proofs.sharing.may_begin.Given as goal

-- the start is no source for any of the readers so far
abbrev pub invariant-loop-reader : goal.invariant-loop-reader
invariant-loop-reader l = All (IsNoStartAt l.store l.calls l.fact) (take l.reader-index l.readers)
