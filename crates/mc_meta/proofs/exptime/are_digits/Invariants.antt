use Rattle.std.proofs.Common.{◌≡◌, drop}
use Rattle.std.specs.Str.{all_ascii_digits}
use Rattle.mc_meta.proofs.exptime.are_digits.Given as goal

-- the bytes that are left are digits if and only if all are
abbrev pub invariant-loop-byte : goal.invariant-loop-byte
invariant-loop-byte l = all_ascii_digits (drop l.byte-index l.text) ≡ all_ascii_digits l.text
