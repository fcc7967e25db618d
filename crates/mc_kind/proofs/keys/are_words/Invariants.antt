use Rattle.std.proofs.Common.{drop}
use Rattle.std.specs.List.{AllByRecursion}
use Rattle.mc_kind.specs.Piece.{IsKeyWord}
use Rattle.mc_kind.proofs.keys.are_words.Given as goal

-- the keys so far are words
abbrev pub invariant-loop-i : goal.invariant-loop-i
invariant-loop-i l = AllByRecursion IsKeyWord (drop l.i l.keys) → AllByRecursion IsKeyWord l.keys
