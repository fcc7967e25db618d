use Rattle.std.proofs.Common.{◌≡◌, ◌-◌, ◌++◌}
use Rattle.std.specs.Prelude.{flat_map}
use Rattle.zy_capture.specs.Capture.{spelled}
use Rattle.zy_gen.specs.Traffic.{one_round}
use Rattle.zy_gen.proofs.making.Making.append_round.Given as goal

-- what is written, followed by the commands that are left, is what was there, followed by the whole
-- round
abbrev pub invariant-loop-conn : goal.invariant-loop-conn
invariant-loop-conn l = record {
  bytes : l.self.out ++ flat_map spelled (one_round l.conn (l.conns - l.conn) l.self.words).items ≡ l.initial.self.out ++ flat_map spelled (one_round 0 l.conns l.initial.self.words).items;
  left : (one_round l.conn (l.conns - l.conn) l.self.words).left ≡ (one_round 0 l.conns l.initial.self.words).left;
}
