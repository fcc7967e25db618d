use Rattle.std.proofs.Common.{◌-◌, length, sym, ◌∙◌, arith}
use Rattle.std.proofs.lemmas.Bool.{eqb-true, eqb-false}
use Rattle.zy_frame.proofs.LineEnds.{chomped-empty, chomped-other, chomped-return}
use Rattle.zy_frame.proofs.line_end.chomp.Goals as goal

pub returns-then-is_empty : goal.returns-then-is_empty
returns-then-is_empty c = record { value = chomped-empty c.args.line.now (eqb-true (length c.args.line.now) 0 (sym c.is_empty.ensures ∙ c.if-is_empty.true)) }

pub returns-then-line-last-ne13 : goal.returns-then-line-last-ne13
returns-then-line-last-ne13 c =
    let some = eqb-false (length c.args.line.now) 0 (sym c.is_empty.ensures ∙ c.if-is_empty.false) in
    record { value = chomped-other c.args.line.now (length c.args.line.now - 1) (omega arith) c.if-line-last-ne13.true }

pub returns : goal.returns
returns c =
    let some = eqb-false (length c.args.line.now) 0 (sym c.is_empty.ensures ∙ c.if-is_empty.false) in
    record { value = chomped-return c.args.line.now (length c.args.line.now - 1) (omega arith) c.if-line-last-ne13.false }
