use Rattle.std.proofs.Common.{◌+◌, ◌*◌, arith}
use Rattle.zy_journal.proofs.WalkLemmas.{quad_there}
use Rattle.zy_journal.proofs.heads.best_of.Goals as goal

pub returns : goal.returns
returns c = record {
  value = λ rests quads.
      let group = c.args.group in
      let within = c.requires.within in
      let low = 16 * group in
      let list = c.args.quads.now in
      let before = c.first_of-before.ensures.value rests low (low + 4) (low + 8) (omega arith) (omega arith)
      (quad_there rests list quads (4 * group) low (low + 4) (omega (arith, within)) (omega arith) (omega arith))
      (quad_there rests list quads (4 * group + 1) (low + 4) (low + 8) (omega (arith, within)) (omega arith) (omega arith)) in
      let behind = c.first_of-behind.ensures.value rests (low + 8) (low + 12) (low + 16) (omega arith) (omega arith)
      (quad_there rests list quads (4 * group + 2) (low + 8) (low + 12) (omega (arith, within)) (omega arith) (omega arith))
      (quad_there rests list quads (4 * group + 3) (low + 12) (low + 16) (omega (arith, within)) (omega arith) (omega arith)) in
      c.first_of.ensures.value rests low (low + 8) (low + 16) (omega arith) (omega arith) before behind;
}
