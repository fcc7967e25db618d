use Rattle.std.proofs.Common.{◌++◌, arith}
use Rattle.zy_gen.specs.Traffic.{block}
use Rattle.zy_gen.proofs.StepLemmas.{block_start, block_step, block_end}
use Rattle.zy_gen.proofs.writing.append_block.Goals as goal

pub loop-i-init : goal.loop-i-init
loop-i-init c = block_start c.args.out.now c.args.letter c.args.size

pub loop-i-preserved : goal.loop-i-preserved
loop-i-preserved c =
    rw (c.in_ok-append.ensures.ok)
    (block_step c.loop-i.out (c.args.out.now ++ block c.args.letter c.args.size) c.args.letter c.loop-i.i c.args.size c.loop-i-test.true c.loop-i.invariant)

pub returns : goal.returns
returns c = record { ok = block_end c.loop-i.out (c.args.out.now ++ block c.args.letter c.args.size) c.args.letter c.loop-i.i c.args.size (omega arith) c.loop-i.invariant }
