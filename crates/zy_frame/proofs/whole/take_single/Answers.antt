use Rattle.std.proofs.Common.{length, arith, ap}
use Rattle.zy_frame.proofs.WholeLemmas.{line_within, single_line}
use Rattle.zy_frame.proofs.whole.take_single.Goals as goal

pub read_need-requires : goal.read_need-requires
read_need-requires c =
    let line = single_line c.args.piece c.bytes-bytes.result.now c.chomp.result.now c.in-Some.at c.bytes-bytes.ensures.value c.chomp.ensures.value in
    let short = c.if-at-gt-LINE_LIMIT.false in
    record { within = omega (arith, ap length line, line_within c.args.piece c.in-Some.at, short) }
