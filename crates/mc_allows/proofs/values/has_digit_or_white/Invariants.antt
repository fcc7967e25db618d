use Rattle.std.proofs.Common.{◌≡◌, drop}
use Rattle.mc_allows.specs.Values as Values
use Rattle.mc_allows.proofs.values.has_digit_or_white.Given as goal

-- what was passed has none
abbrev pub invariant-loop-byte : goal.invariant-loop-byte
invariant-loop-byte l = Values.has_digit_or_white (drop l.byte-index l.value) ≡ Values.has_digit_or_white l.value
