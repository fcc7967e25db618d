use Rattle.std.proofs.Common.{◌≡◌, ◌-◌, ◌++◌}
use Rattle.std.specs.Prelude.{flat_map}
use Rattle.zy_capture.specs.Capture.{spelled}
use Rattle.zy_gen.specs.Traffic.{rounds}
use Rattle.zy_gen.proofs.making.Making.append_rounds.Given as goal

-- what is written, followed by the rounds that are left, is what was there, followed by all rounds
abbrev pub invariant-loop : goal.invariant-loop
invariant-loop l = l.self.out ++ flat_map spelled (rounds l.conns (l.commands - l.counter) l.self.words).items ≡ l.initial.self.out ++ flat_map spelled (rounds l.conns l.commands l.initial.self.words).items
