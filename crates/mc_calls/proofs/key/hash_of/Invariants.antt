use Rattle.std.proofs.Common.{◌≡◌, drop}
use Rattle.mc_calls.specs.Key.{hash_after, hash_of}
use Rattle.mc_calls.proofs.key.hash_of.Given as goal

-- the bytes that are left lead from the hash so far to the hash of all
abbrev pub invariant-loop-byte : goal.invariant-loop-byte
invariant-loop-byte l = hash_after l.hash (drop l.byte-index l.key) ≡ hash_of l.key
