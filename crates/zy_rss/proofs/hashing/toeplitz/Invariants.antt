use Rattle.std.proofs.Common.{◌≡◌}
use Rattle.zy_rss.specs.Toeplitz.{hash_of_first}
use Rattle.zy_rss.proofs.hashing.toeplitz.Given as goal

-- the hash so far is that of the places before this one
abbrev pub invariant-loop-place : goal.invariant-loop-place
invariant-loop-place l = l.hash ≡ hash_of_first l.input l.place
