use Rattle.std.proofs.Common.{◌≡◌, ◌≤◌, length, take}
use Rattle.zy_check.proofs.bytes.first_difference.Given as goal

abbrev pub invariant-loop-at : goal.invariant-loop-at
invariant-loop-at l = record {
  same : take l.at l.one ≡ take l.at l.other;
  short : l.at ≤ length l.other;
}
