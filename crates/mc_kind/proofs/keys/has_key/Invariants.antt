use Rattle.std.proofs.Common.{drop}
use Rattle.std.specs.List.{Contains}
use Rattle.mc_kind.proofs.keys.has_key.Given as goal

-- the key is none of those so far
abbrev pub invariant-loop-i : goal.invariant-loop-i
invariant-loop-i l = Contains l.keys l.key → Contains (drop l.i l.keys) l.key
