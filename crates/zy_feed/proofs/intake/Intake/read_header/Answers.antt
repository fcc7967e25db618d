use Rattle.std.proofs.Common.{[], arith}
use Rattle.zy_feed.proofs.ReadLemmas.{fresh_read, has_few, record_absurd, end_absurd}
use Rattle.zy_feed.proofs.intake.Intake.read_header.Goals as goal

pub loop-init : goal.loop-init
loop-init g c = record {
  count = omega arith;
  read = ([], (omega arith, fresh_read g.S.Source.rest g.S.Source.faults c.args.source.now c.args.self.now c.requires.fresh));
}

pub unreachable-requires : goal.unreachable-requires
unreachable-requires g c =
    let read = c.loop.invariant.read in
    let later = c.in_ok-refill.ensures.value c.args.source.now [] read.0 read.1.1 in
    let all = rw c.if-not-branch.true at later in
    end_absurd g.S.Source.rest g.S.Source.faults c.args.source.now c.refill.new.source c.refill.new.self read.0
    (c.in_default.ensures.none [] read.0 read.1.1.reader) all

pub unreachable-requires-in-Some-2 : goal.unreachable-requires-in-Some-2
unreachable-requires-in-Some-2 g c =
    let read = c.loop.invariant.read in
    let later = c.in_ok-refill.ensures.value c.args.source.now [] read.0 read.1.1 in
    let has = rw c.if-not-branch.false at later in
    let takes = rw c.in-Some-2.is at c.in_ok-feed_one.ensures.value in
    record_absurd g.S.Source.rest g.S.Source.faults c.args.source.now c.refill.new.source c.refill.new.self c.feed_one.new.self read.0 c.in-Some-2.field-0 has
    (c.in_default.ensures.none [] read.0 read.1.1.reader) takes

pub unreachable-requires-2 : goal.unreachable-requires-2
unreachable-requires-2 g c =
    let read = c.loop.invariant.read in
    omega (arith, c.loop-test.false, read.1.0, has_few g.S.Source.rest g.S.Source.faults c.args.source.now c.loop.source c.loop.self [] read.0 read.1.1)
