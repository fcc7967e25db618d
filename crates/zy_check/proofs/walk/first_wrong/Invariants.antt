use Rattle.std.proofs.Common.{◌≡◌, ◌≤◌, length, drop}
use Rattle.zy_check.specs.Walk.{AreBeforeEntry}
use Rattle.zy_check.proofs.walk.first_wrong.Given as goal

-- the entries before the place were taken, and are right
abbrev pub invariant-loop-at : goal.invariant-loop-at
invariant-loop-at l = record {
  here : AreBeforeEntry l.files l.at l.tracks l.states.items;
  left : l.entries ≡ drop l.at l.files.entries;
  within : l.at ≤ length l.files.entries;
}
