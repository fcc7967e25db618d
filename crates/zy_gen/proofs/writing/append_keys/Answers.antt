use Rattle.std.proofs.Common.{◌++◌, arith}
use Rattle.zy_gen.specs.Traffic.{keys}
use Rattle.zy_gen.proofs.StepLemmas.{keys_start, keys_step, keys_end}
use Rattle.zy_gen.proofs.writing.append_keys.Goals as goal

pub loop-i-init : goal.loop-i-init
loop-i-init c = keys_start c.args.out.now c.args.conn c.args.item c.args.count

pub loop-i-preserved : goal.loop-i-preserved
loop-i-preserved c =
    rw (c.in_ok-append_with_key.ensures.ok)
    (keys_step c.loop-i.out (c.args.out.now ++ keys c.args.conn c.args.item c.args.count) c.args.conn c.args.item c.loop-i.i c.args.count c.loop-i-test.true c.loop-i.invariant)

pub returns : goal.returns
returns c = record { ok = keys_end c.loop-i.out (c.args.out.now ++ keys c.args.conn c.args.item c.args.count) c.args.conn c.args.item c.loop-i.i c.args.count (omega arith) c.loop-i.invariant }
