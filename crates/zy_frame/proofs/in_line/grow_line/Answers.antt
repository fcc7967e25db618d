use Rattle.std.proofs.Common.{arith, length, ap}
use Rattle.zy_frame.proofs.StepLemmas.{line_grows, line_too_long}
use Rattle.zy_frame.proofs.in_line.grow_line.Goals as goal

pub returns-then-bytes-gt-LINE_LIMIT : goal.returns-then-bytes-gt-LINE_LIMIT
returns-then-bytes-gt-LINE_LIMIT c = record {
  value = line_too_long c.args.kept.now c.args.bytes.now c.requires.short c.requires.some c.requires.none
      (omega (arith, ap length c.bytes.ensures.value, c.if-bytes-gt-LINE_LIMIT.true));
}

pub returns : goal.returns
returns c = record {
  value = rw c.in_ok-append.ensures.ok (line_grows c.args.kept.now c.args.bytes.now c.requires.short c.requires.some c.requires.none
      (omega (arith, ap length c.bytes.ensures.value, c.if-bytes-gt-LINE_LIMIT.false)));
}
