use Rattle.std.proofs.Common.{arith}
use Rattle.zy_pcap.specs.Held.{woven_at}
use Rattle.zy_pcap.proofs.WeaveLemmas.{step_gap, step_run, step_last}
use Rattle.zy_pcap.proofs.weaving.woven.Goals as goal

pub returns-then-from-len : goal.returns-then-from-len
returns-then-from-len c = record {
  value = step_gap (woven_at c.args.runs c.args.bytes.now c.args.from) c.args.from c.args.limit c.args.bytes.now c.loop-begin.woven.items c.loop-begin.begin-iterator c.requires.within c.loop-begin.invariant
      (c.in-Some.begin.now, c.in-Some.run'.now) c.next.new.self c.append.new.woven.items c.in-Some.ensures.steps c.in_default.ensures.ok (omega arith);
}

pub loop-begin-preserved : goal.loop-begin-preserved
loop-begin-preserved c =
    step_run (woven_at c.args.runs c.args.bytes.now c.args.from) c.args.from c.args.limit c.args.bytes.now c.loop-begin.woven.items c.loop-begin.begin-iterator c.requires.within c.loop-begin.invariant
    (c.in-Some.begin.now, c.in-Some.run'.now) c.next.new.self c.append.new.woven.items c.bytes.result.now c.append-in-loop-begin.new.woven.items c.in-Some.ensures.steps c.in_default.ensures.ok (omega arith) c.bytes.ensures.value c.in_default-append.ensures.ok

pub returns-in-Ok-append : goal.returns-in-Ok-append
returns-in-Ok-append c = record {
  value = step_last (woven_at c.args.runs c.args.bytes.now c.args.from) c.args.from c.args.limit c.args.bytes.now c.loop-begin.woven.items c.loop-begin.begin-iterator c.requires.within c.loop-begin.invariant
      c.append-2.new.woven.items c.in-None.ensures.steps.0 c.in-Ok-append.ensures.ok;
}
