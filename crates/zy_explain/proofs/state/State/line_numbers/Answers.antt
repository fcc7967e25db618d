use Rattle.zy_explain.proofs.NumberLemmas.{line_more}
use Rattle.zy_explain.proofs.state.State.line_numbers.Goals as goal

pub loop-number-preserved : goal.loop-number-preserved
loop-number-preserved c =
    line_more c.args.sessions.now c.args.outputs.now.sessions c.args.self.now.rows.items c.args.conn c.loop-number.number c.loop-number.all c.in_ok-more.more c.loop-number.invariant c.in_ok-more.ensures.value
