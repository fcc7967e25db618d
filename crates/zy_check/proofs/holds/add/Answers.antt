use Rattle.std.proofs.Common.{◌<◌, ◌+◌, length, ap, sym, ◌∙◌, arith}
use Rattle.zy_check.proofs.ListLemmas.{read_at}
use Rattle.zy_check.proofs.HoldLemmas.{sums_more, sums_same}
use Rattle.zy_check.proofs.holds.add.Goals as goal

pub returns-in-Some : goal.returns-in-Some
returns-in-Some c =
    let size = c.len.ensures in
    let ok = c.args.sums.now.ok in
    let low = c.if-conn-len.true in
    let within : c.args.hold.conn < length c.args.sums.now.items = omega arith in record {
      sums = λ count before are. sums_more count before c.args.hold c.args.sums.now.items c.in-Some.sum within (c.in-Some.ensures.1 ∙ ap (λ n. n + c.args.hold.count) (sym (read_at c.args.sums.now.items c.args.hold.conn c.index.result.now 0 within c.index.ensures))) are;
    }

pub returns-else-conn-len : goal.returns-else-conn-len
returns-else-conn-len c =
    let size = c.len.ensures in
    let ok = c.args.sums.now.ok in
    let high = c.if-conn-len.false in record {
      sums = λ count before are. sums_same count before c.args.hold c.args.sums.now.items (omega arith) are;
    }
