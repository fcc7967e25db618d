use Rattle.std.proofs.Common.{All, take}
use Rattle.zy_refute.specs.Shared.{IsNoMakerFor}
use Rattle.zy_refute.proofs.sharing.is_source_of_none.Given as goal

-- the call is no source for any of the readers so far
abbrev pub invariant-loop-reader : goal.invariant-loop-reader
invariant-loop-reader l = IsNoMakerFor l.store l.calls l.fact (take l.reader-index l.readers) l.at
