use Rattle.std.proofs.Common.{◌≡◌, ◌+◌, ◌-◌, ◌++◌}
use Rattle.zy_gen.specs.Traffic.{keys}
use Rattle.zy_gen.proofs.writing.append_keys.Given as goal

-- what is written, followed by the keys that are left, is what was there, followed by all keys
abbrev pub invariant-loop-i : goal.invariant-loop-i
invariant-loop-i l = l.out ++ keys l.conn (l.item + l.i) (l.count - l.i) ≡ l.initial.out ++ keys l.conn l.item l.count
