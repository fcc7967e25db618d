use Rattle.std.proofs.Common.{◌≡◌, ◌∙◌, ap, arith}
use Rattle.zy_times.specs.Times.{trues}
use Rattle.zy_times.specs.InTime.{commands_of_all, total_below}
use Rattle.zy_times.proofs.SpanLemmas.{flags_at, ended_of_all}
use Rattle.zy_times.proofs.spans.Spans.numbers.Goals as goal

pub returns : goal.returns
returns c = record {
  value = λ r count are.
      let inv = c.loop-conn.invariant in
      let all : c.loop-conn.conn ≡ count = omega (arith, are.size, inv.within, c.len-conn-end.ensures, c.loop-conn-test.false) in (
        inv.commands r count are ∙ ap (commands_of_all r) all,
        ended_of_all r count c.args.self.now c.loop-conn.ended are (inv.ended ∙ ap (total_below (λ conn. trues (flags_at c.args.self.now conn))) all),
      );
}
