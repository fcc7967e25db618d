use Rattle.std.proofs.Common.{◌++◌, ◌≡◌, ◌-◌, arith, rules}
use Rattle.std.specs.Prelude.{flat_map}
use Rattle.zy_capture.specs.Capture.{spelled}
use Rattle.zy_gen.specs.Traffic.{one_round}
use Rattle.zy_gen.proofs.StepLemmas.{round_step, round_left, round_end, round_end_left}
use Rattle.zy_gen.proofs.making.Making.append_round.Goals as goal

pub loop-conn-init : goal.loop-conn-init
loop-conn-init c = let same : c.args.conns - 0 ≡ c.args.conns = omega arith in rw same (search rules)

pub loop-conn-preserved : goal.loop-conn-preserved
loop-conn-preserved c =
    rw (c.in_ok-append_command.ensures.ok, c.in_ok-append_command.ensures.left) (record {
      bytes = round_step c.loop-conn.self.out (c.args.self.now.out ++ flat_map spelled (one_round 0 c.args.conns c.args.self.now.words).items) c.loop-conn.conn c.args.conns c.loop-conn.self.words c.loop-conn-test.true c.loop-conn.invariant.bytes;
      left = round_left c.loop-conn.conn c.args.conns c.loop-conn.self.words (one_round 0 c.args.conns c.args.self.now.words).left c.loop-conn-test.true c.loop-conn.invariant.left;
    })

pub returns : goal.returns
returns c = record {
  ok = round_end c.loop-conn.self.out (c.args.self.now.out ++ flat_map spelled (one_round 0 c.args.conns c.args.self.now.words).items) c.loop-conn.conn c.args.conns c.loop-conn.self.words (omega arith) c.loop-conn.invariant.bytes;
  left = round_end_left c.loop-conn.conn c.args.conns c.loop-conn.self.words (one_round 0 c.args.conns c.args.self.now.words).left (omega arith) c.loop-conn.invariant.left;
}
