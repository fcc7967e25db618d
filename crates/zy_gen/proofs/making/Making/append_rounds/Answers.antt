use Rattle.std.proofs.Common.{◌++◌, ◌≡◌, ◌-◌, arith, refl}
use Rattle.std.specs.Prelude.{flat_map}
use Rattle.zy_capture.specs.Capture.{spelled}
use Rattle.zy_gen.specs.Traffic.{rounds}
use Rattle.zy_gen.proofs.StepLemmas.{rounds_step, rounds_end}
use Rattle.zy_gen.proofs.making.Making.append_rounds.Goals as goal

pub loop-init : goal.loop-init
loop-init c = let same : c.args.commands - 0 ≡ c.args.commands = omega arith in rw same refl

pub loop-preserved : goal.loop-preserved
loop-preserved c =
    rw (c.in_ok-append_round.ensures.ok, c.in_ok-append_round.ensures.left)
    (rounds_step c.loop.self.out (c.args.self.now.out ++ flat_map spelled (rounds c.args.conns c.args.commands c.args.self.now.words).items) c.args.conns c.loop.counter c.args.commands c.loop.self.words c.loop-test.true c.loop.invariant)

pub returns : goal.returns
returns c = record { ok = rounds_end c.loop.self.out (c.args.self.now.out ++ flat_map spelled (rounds c.args.conns c.args.commands c.args.self.now.words).items) c.args.conns c.loop.counter c.args.commands c.loop.self.words (omega arith) c.loop.invariant }
