use Rattle.std.proofs.Common.{◌-◌, length, arith}
use Rattle.mc_parse.proofs.StoringLemmas.{word_at, parts_length}
use Rattle.mc_parse.proofs.need.keep_storing.Goals as goal

pub returns : goal.returns
returns c =
    let line = c.args.line.now in
    let key = c.args.said.key.now in
    let after = c.args.said.after.now in
    let size = parts_length line key after c.requires.parts in
    record {
      parsed = record {
        order = omega arith;
        within = omega arith;
        bytes = c.args.said.bytes;
        says = rw (word_at line key after (length line - length after - length key) (length line - length after) c.requires.parts (omega (arith, size)) (omega (arith, size))) c.requires.says;
      };
    }
